-- That each body that may be spelled is within the limit of a journal's record.
use Rattle.std.specs.Prelude.{◌≡◌, ℕ, ◌+◌, ◌*◌, ◌≤◌, Bool, true, false, List, [], ◌∷◌, ◌++◌, length}
use Rattle.std.specs.Int.{w16, w32, to_le_bytes}
use Rattle.std.specs.List.{AllByRecursion, flat_map}
use Rattle.std.proofs.Common.{ap, sym, subst, refl, arith, lit≤}
use Rattle.std.proofs.lemmas.List.{length-append, length-map}
use Rattle.ide_journal.specs.Format.{Entry, IsEntry}
use Rattle.ide_journal.specs.declared.version.Version.{Version}
use Rattle.ide_journal.specs.declared.version.Version.TheVariants.{One, Two}
use Rattle.ide_wire.specs.Key.{key_at_most, key_form}
use Rattle.ide_batch.specs.Bodies.{IsBody, IsEntryOf, MayBeSpelled}
use Rattle.ide_batch.specs.Forms.{counted}
use Rattle.ide_batch.specs.Groups.{Group, IsGroup, IsGroupedBody, Member, group_form, items_of, key_of_kind, member_form}
use Rattle.ide_batch.specs.Items.{Functions, IsListBody, Item, entry_form, item_form, mark}
use Rattle.ide_batch.specs.Records.{RecordValue, Load, Root, Batch, record_kind}

mark_short : (pending : Bool) → length (mark pending) ≡ 1
mark_short true = refl
mark_short false = refl

module _ {F : Type 0} (functions : Functions F) (small : (f : F) → length (functions.form f) ≤ 32) where
  entry_short : (entry : F × Bool) → length (entry_form functions entry) ≤ 33
  entry_short entry =
      omega (arith, length-append (functions.form entry.0) (mark entry.1), mark_short entry.1, small entry.0)

  item_short : (item : Item F) → length (item_form functions item) ≤ 42
  item_short item =
      omega (arith, length-append (key_form item.0) (entry_form functions (item.1, item.2)), key_at_most item.0, entry_short (item.1, item.2))

  member_short : (member : Member F) → length (member_form functions member) ≤ 37
  member_short member =
      let facts : length (to_le_bytes w16 member.0 ++ to_le_bytes w16 member.1) ≡ 4 = refl in
      omega (arith, length-append (to_le_bytes w16 member.0 ++ to_le_bytes w16 member.1) (entry_form functions (member.2, member.3)), facts, entry_short (member.2, member.3))

  list_short : (items : List (Item F)) → length (flat_map (item_form functions) items) ≤ 42 * length items
  list_short [] = lit≤ tt
  list_short (item ∷ items) =
      omega (arith, length-append (item_form functions item) (flat_map (item_form functions) items), item_short item, list_short items)

  members_short : (members : List (Member F)) → length (flat_map (member_form functions) members) ≤ 37 * length members
  members_short [] = lit≤ tt
  members_short (member ∷ members) =
      omega (arith, length-append (member_form functions member) (flat_map (member_form functions) members), member_short member, members_short members)

  counted_long : {T : Type 0} (form : T → List ℕ) (xs : List T) → length (counted form xs) ≡ 4 + length (flat_map form xs)
  counted_long form xs = length-append (to_le_bytes w32 (length xs)) (flat_map form xs)

  group_short : (group : Group F) → IsGroup group → length (group_form functions group) ≤ 46 * length (items_of group)
  group_short group is =
      let long : length (items_of group) ≡ length group.members = length-map group.members (λ m. (key_of_kind group.kind group.node m.0 m.1, m.2, m.3)) in
      let place : length (group.kind ∷ to_le_bytes w32 group.node) ≡ 5 = refl in
      omega (
        arith,
        long,
        place,
        is.some,
        counted_long (member_form functions) group.members,
        members_short group.members,
        length-append (group.kind ∷ to_le_bytes w32 group.node) (counted (member_form functions) group.members),
      )

  groups_short : (groups : List (Group F)) → AllByRecursion IsGroup groups → length (flat_map (group_form functions) groups) ≤ 46 * length (flat_map items_of groups)
  groups_short [] each = lit≤ tt
  groups_short (g ∷ groups) each =
      omega (
        arith,
        group_short g each.0,
        groups_short groups each.1,
        length-append (items_of g) (flat_map items_of groups),
        length-append (group_form functions g) (flat_map (group_form functions) groups),
      )

  listed_short : (items : List (Item F)) (body : List ℕ) → IsListBody functions items body → length body ≤ 4194304
  listed_short items body is =
      omega (arith, ap length is.is, counted_long (item_form functions) items, list_short items, is.written.few)

  grouped_short : (items : List (Item F)) (body : List ℕ) → IsGroupedBody functions items body → length body ≤ 4194304
  grouped_short items body is =
      omega (arith, ap length is.is, counted_long (group_form functions) is.groups, groups_short is.groups is.are.each, is.are.few)

  pub short : (version : Version) (record_value : RecordValue F) (body : List ℕ) → MayBeSpelled functions record_value
      → IsBody functions version record_value body → length body ≤ 4194304
  short version (Load text) body may is = let long = ap length is in omega (arith, long, may)
  short version (Root name) body may is = let long = ap length is in omega (arith, long, may)
  short One (Batch items) body may is = listed_short items body is
  short Two (Batch items) body may is = grouped_short items body is

  -- so the journal takes it
  pub journal_takes : (version : Version) (record_value : RecordValue F) (entry : Entry) → MayBeSpelled functions record_value
      → IsEntryOf functions version record_value entry → IsEntry entry
  journal_takes version record_value entry may is = record {
    some_kind = subst (λ kind. 1 ≤ kind) (sym is.kind) (some_kind record_value);
    known_kind = subst (λ kind. kind ≤ 3) (sym is.kind) (known_kind record_value);
    short = short version record_value entry.1 may is.body;
  }
    where
      some_kind : (r : RecordValue F) → 1 ≤ record_kind r
      some_kind (Load text) = lit≤ tt
      some_kind (Root name) = lit≤ tt
      some_kind (Batch items) = lit≤ tt

      known_kind : (r : RecordValue F) → record_kind r ≤ 3
      known_kind (Load text) = lit≤ tt
      known_kind (Root name) = lit≤ tt
      known_kind (Batch items) = lit≤ tt
