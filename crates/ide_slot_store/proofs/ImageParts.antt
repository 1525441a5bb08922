-- The image of the commands among records, the parts that lead from there to the image of all, and how items are cut into parts.
use Rattle.std.proofs.Common.{◌≡◌, ◌∙◌, ◌⊎◌, ◌≤◌, ◌+◌, ◌*◌, ◌&&◌, ◌||◌, not, ℕ, zero, suc, All, Bool, true, false, cond, List, [], ◌∷◌, ◌++◌, Option, Some, None, length, take, drop, map, min, refl, ap, sym, subst, inl, inr, arith}
use Rattle.std.specs.Prelude.{nat_le, unwrap_or}
use Rattle.std.specs.Option.{is_some}
use Rattle.std.specs.List.{Contains, filter, list_any}
use Rattle.std.specs.List.Sorted.{IsStrictlySortedBy}
use Rattle.std.proofs.lemmas.Bool.{not-true}
use Rattle.std.proofs.lemmas.List.{append-nil, append_assoc, drop_at, drop_min, get_or_append_left, length-append, length-drop, length-take, map-append, nil_from_length, take-append-drop, take_at, take_min}
use Rattle.std.proofs.lemmas.List.Folds.{Any-from_list_any}
use Rattle.std.proofs.lemmas.List.Recursion.{same_from_clauses}
use Rattle.std.proofs.lemmas.List.Elements.{All-cons, All-nil, Contains-append_left, Contains-append_right}
use Rattle.std.proofs.lemmas.Map.Keys.{Less-from_sorted, sorted_from_all_adjacent, sorted_tail}
use Rattle.ide_batch.specs.Applied.{HasImage}
use Rattle.ide_batch.specs.Fold.{ProgramImage, RecordLeads, image_entry, named, or_else, procedures, said_by, with_items}
use Rattle.ide_batch.specs.Forms.{all_proper}
use Rattle.ide_batch.specs.Items.{AreWritten, Functions, Item, is_proper_item}
use Rattle.ide_batch.specs.Records.{Batch, Load, RecordValue, Root}
use Rattle.ide_journal.specs.Format.{Entry}
use Rattle.ide_journal.specs.Lists.{entries_of, entry_of}
use Rattle.ide_journal.specs.declared.record.RawRecord.{RawRecord}
use Rattle.ide_journal.specs.declared.version.Version.TheVariants.{Two}
use Rattle.ide_lattice.specs.Algebra.{EdgeAlgebra}
use Rattle.ide_slots.specs.Slot.{IsPartEntry, numbered_from}
use Rattle.ide_steps.specs.Core.{CoreData}
use Rattle.ide_steps.specs.Items.{AreItems}
use Rattle.ide_image.specs.Tables.{found}
use Rattle.ide_image.specs.Worklist.{is_pending}
use Rattle.ide_text.specs.Value.{ProgramValue}
use Rattle.ide_theory.specs.Images.{entered, image_state, root_begun, seeded_below, seeded_once, step}
use Rattle.ide_theory.specs.Images as images
use Rattle.ide_theory.specs.Member.{IsIn, first, later}
use Rattle.ide_theory.specs.Members.{contains-in, first-or, in-contains, not-in-empty}
use Rattle.ide_theory.specs.State.{State, seeded}
use Rattle.ide_theory.proofs.Laws.Changes.{none-some}
use Rattle.ide_wire.specs.Key.{same_key, same_key_exact, same_key_refl}
use Rattle.ide_wire.specs.KeyOrder.{key_cmp, key_cmp_total}
use Rattle.ide_wire.specs.declared.key.Key.{Key}
use Rattle.ide_wire.specs.declared.key.Key.TheVariants.{Jump}
use Rattle.ide_wire.specs.declared.refused.Refused.{Refused}
use Rattle.ide_wire.specs.declared.refused.Refused.TheVariants.{Limit}
use Rattle.ide_store.specs.Machine.{IsRecordOf, ProgramStep, slot_machine}
use Rattle.ide_slot_store.specs.Parts.{AreImageParts, AreInParts, CommandsStayBelow, ImagePartsMakeCheckpoints, IsBelow, IsImagePart, IsPartsStop, IsSpellStop, PartsLeadUp, key_not_spelled, memory_is_wanting, one_not_spelled, wants_memory}
use Rattle.ide_store.specs.Table.{Analysis, TableData, forms_of}
use Rattle.ide_store.specs.TwoDisks.{is_command, unnumbered}
use Rattle.ide_store.specs.TwoDisksLaws.{slots_of}
use Rattle.ide_store.specs.Versioned.{VersionedEntry, in_version, plain}
use Rattle.ide_store.specs.World.{LeadTo, Rules}

-- ---- what items make of an entry
module _ {F : Type 0} where
  -- what the first item makes of it, and then the others
  first_then : (x : Item F) (items : List (Item F)) (key : Key) (entry : Option F × Bool)
      → unwrap_or (named (x ∷ items) key) entry ≡ unwrap_or (named items key) (unwrap_or (said_by x key) entry)
  first_then x items key entry = by (named items key)
    where
      by : (o : Option (Option F × Bool)) → unwrap_or (or_else o (said_by x key)) entry ≡ unwrap_or o (unwrap_or (said_by x key) entry)
      by None = refl
      by (Some said) = refl

  -- what items make of it, and then those behind them
  then_behind : (items more : List (Item F)) (key : Key) (entry : Option F × Bool)
      → unwrap_or (named (items ++ more) key) entry ≡ unwrap_or (named more key) (unwrap_or (named items key) entry)
  then_behind [] more key entry = refl
  then_behind (x ∷ items) more key entry =
      first_then x (items ++ more) key entry
      ∙ then_behind items more key (unwrap_or (said_by x key) entry)
      ∙ ap (unwrap_or (named more key)) (sym (first_then x items key entry))

  -- where there is no function after them, they made nothing of it
  none_made : (items : List (Item F)) (key : Key) (entry : Option F × Bool) → (unwrap_or (named items key) entry).0 ≡ None
      → unwrap_or (named items key) entry ≡ entry
  none_made [] key entry none = refl
  none_made (x ∷ items) key entry none =
      let others : unwrap_or (named items key) (unwrap_or (said_by x key) entry) ≡ unwrap_or (said_by x key) entry =
      none_made items key (unwrap_or (said_by x key) entry) (ap (λ (e : Option F × Bool). e.0) (sym (first_then x items key entry)) ∙ none) in
      first_then x items key entry ∙ others
      ∙ by (same_key x.0 key) (ap (λ (e : Option F × Bool). e.0) (sym others ∙ sym (first_then x items key entry)) ∙ none)
    where
      by : (b : Bool) → (unwrap_or (cond b (Some (Some x.1, x.2)) None) entry).0 ≡ None → unwrap_or (cond b (Some (Some x.1, x.2)) None) entry ≡ entry
      by true there = absurd (none-some (sym there))
      by false there = refl

  -- where each item of the key says so, they make this of it, if there is one, or it was that before
  items_make : (items : List (Item F)) (key : Key) (before entry : Option F × Bool)
      → ((f : F) (waits : Bool) → IsIn (key, f, waits) items → (Some f, waits) ≡ entry)
      → ((f : F) × (waits : Bool) × IsIn (key, f, waits) items) ⊎ (before ≡ entry) → unwrap_or (named items key) before ≡ entry
  items_make [] key before entry each (inl some) = absurd (not-in-empty some.2)
  items_make [] key before entry each (inr same) = same
  items_make (x ∷ items) key before entry each some =
      first_then x items key before ∙ by (same_key x.0 key) refl some (λ between. items_make items key between entry (λ f waits among. each f waits (later among)))
    where
      by : (b : Bool) → same_key x.0 key ≡ b → ((f : F) × (waits : Bool) × IsIn (key, f, waits) (x ∷ items)) ⊎ (before ≡ entry)
          → ((between : Option F × Bool) → ((f : F) × (waits : Bool) × IsIn (key, f, waits) items) ⊎ (between ≡ entry) → unwrap_or (named items key) between ≡ entry)
          → unwrap_or (named items key) (unwrap_or (cond b (Some (Some x.1, x.2)) None) before) ≡ entry
      by true here some others =
          others (Some x.1, x.2) (inr (each x.1 x.2 (subst (λ (k : Key). IsIn (k, x.1, x.2) (x ∷ items)) (same_key_exact x.0 key here) first)))
      by false other (inl (f, waits, among)) others = elim (first-or among) [
        | inl here ↦ absurd (cc (other, ap (λ (item : Item F). same_key item.0 key) (sym here) ∙ same_key_refl key))
        | inr rest ↦ others before (inl (f, waits, rest))
      ]
      by false other (inr same) others = others before (inr same)

-- ---- images below others
module _ {F : Type 0} where
  -- an image is below itself
  below_itself : (image : ProgramImage F) → IsBelow image image
  below_itself image = record { program = refl; roots = refl; absent = λ key none. refl }

  -- items are set in the upper one
  below_set : (low high : ProgramImage F) (items : List (Item F)) → IsBelow low high → IsBelow low (with_items high items)
  below_set low high items below = record {
    program = below.program;
    roots = below.roots;
    absent = λ key none.
        let same : image_entry (with_items high items) key ≡ image_entry high key = none_made items key (image_entry high key) none in
        below.absent key (ap (λ (e : Option F × Bool). e.0) (sym same) ∙ none) ∙ sym same;
  }

  -- what a state has of a key
  abbrev entry_at : State F → Key → Option F × Bool
  entry_at s key = (s.get key, s.pending key)

  -- what is absent in the one state is in the other as in this one
  abbrev SameWhereAbsent : State F → State F → Type 0
  SameWhereAbsent s t = (key : Key) → t.get key ≡ None → entry_at s key ≡ entry_at t key

  module _ {L : Type 0} (functions : EdgeAlgebra F L) where
    -- the key becomes the identity, where it had that
    abbrev seeded_if : Option F → State F → Key → State F
    seeded_if o s at = cond (is_some o) s (seeded functions s at)

    -- so it stays where a key becomes the identity in both
    seeded_same : (s t : State F) (at : Key) → SameWhereAbsent s t → SameWhereAbsent (seeded_once functions s at) (seeded_once functions t at)
    seeded_same s t at same key none = by (t.get at) refl (s.get at) refl none
      where
        both : (b : Bool) → cond b (Some functions.id) (t.get key) ≡ None
            → ◌≡◌ {A = Option F × Bool} (cond b (Some functions.id) (s.get key), cond b true (s.pending key))
            (cond b (Some functions.id) (t.get key), cond b true (t.pending key))
        both true none = absurd (none-some (sym none))
        both false none = same key none

        lower : (f : F) → t.get at ≡ Some f → t.get key ≡ None → (b : Bool) → same_key at key ≡ b
            → ◌≡◌ {A = Option F × Bool} (cond b (Some functions.id) (s.get key), cond b true (s.pending key)) (entry_at t key)
        lower f is none true here = absurd (none-some (sym none ∙ ap t.get (sym (same_key_exact at key here)) ∙ is))
        lower f is none false other = same key none

        by : (o : Option F) → t.get at ≡ o → (p : Option F) → s.get at ≡ p → (seeded_if o t at).get key ≡ None
            → entry_at (seeded_if p s at) key ≡ entry_at (seeded_if o t at) key
        by (Some f) is (Some g) low none = same key none
        by (Some f) is None low none = lower f is none (same_key at key) refl
        by None is (Some g) low none = absurd (none-some (sym is ∙ ap (λ (e : Option F × Bool). e.0) (sym (same at is)) ∙ low))
        by None is None low none = both (same_key at key) none

    -- and where so many do at a start
    seeds_same : (s t : State F) (start count : ℕ) → SameWhereAbsent s t
        → SameWhereAbsent (seeded_below functions s start count) (seeded_below functions t start count)
    seeds_same s t start zero same = same
    seeds_same s t start (suc n) same =
        seeded_same (seeded_below functions s start n) (seeded_below functions t start n) (Jump start n n) (seeds_same s t start n same)

  module _ {L : Type 0} (functions : EdgeAlgebra F L) (equal : F → F → Bool) where
    -- and where a root is entered
    entered_same : (said : Option ProgramValue) (name : List ℕ) (s t : State F) → SameWhereAbsent s t
        → SameWhereAbsent (entered procedures functions equal said name s) (entered procedures functions equal said name t)
    entered_same None name s t same = same
    entered_same (Some v) name s t same = by (procedures.start v name)
      where
        by : (start : Option ℕ) → SameWhereAbsent (root_begun procedures functions equal v start s) (root_begun procedures functions equal v start t)
        by None = same
        by (Some r) = seeds_same functions s t r (procedures.entries v) same

    -- a root is made in both
    abbrev rooted : ProgramImage F → List ℕ → ProgramImage F
    rooted image name = step procedures functions equal image (images.Root name)

    below_rooted : (low high : ProgramImage F) (name : List ℕ) → IsBelow low high → IsBelow (rooted low name) (rooted high name)
    below_rooted low high name below = record {
      program = below.program;
      roots = ap (λ (names : List (List ℕ)). names ++ name ∷ []) below.roots;
      absent =
          subst (λ (said : Option ProgramValue). SameWhereAbsent (entered procedures functions equal said name (image_state low)) (entered procedures functions equal high.program name (image_state high)))
          (sym below.program) (entered_same high.program name (image_state low) (image_state high) below.absent);
    }

    -- ---- the commands among records
    module _ (forms : Functions F) where
      abbrev rules : Rules (ProgramImage F) (ProgramStep F) VersionedEntry
      rules = slot_machine functions equal forms

      -- a record is a command, which leads in the second version from the lower image to one below the next; or it is none, and
      -- the lower image is below the next
      abbrev Follows : Entry → (low next : ProgramImage F) → Type 0
      Follows entry low next =
          (((number : ℕ) → is_command (number, entry) ≡ true) × (after : ProgramImage F) × rules.Leads (Two, entry) low after × IsBelow after next)
          ⊎ (((number : ℕ) → is_command (number, entry) ≡ false) × IsBelow low next)

      -- whether a record is a command, its kind tells
      by_kind : (kind : ℕ) (entry : Entry) → entry.0 ≡ kind → (number : ℕ) → is_command (number, entry) ≡ (nat_le 1 kind && nat_le kind 2)
      by_kind kind entry is number = ap (λ (n : ℕ). nat_le 1 n && nat_le n 2) is

      record_follows : (value : RecordValue F) (r : VersionedEntry) (low high next : ProgramImage F) → IsBelow low high → IsRecordOf forms value r
          → RecordLeads functions equal value high next → Follows r.1 low next
      record_follows (Load text) r low high next below spelled leads =
          let again : IsRecordOf forms (Load text) (Two, r.1) = record { kind = spelled.kind; body = spelled.body } in
          inl (by_kind 1 r.1 spelled.kind, next, inl (record { value = Load text; spelled = again; leads = leads }), below_itself next)
      record_follows (Root name) r low high next below spelled leads =
          let again : IsRecordOf forms (Root name) (Two, r.1) = record { kind = spelled.kind; body = spelled.body } in
          inl (
            by_kind 2 r.1 spelled.kind,
            rooted low name,
            inl (record { value = Root name; spelled = again; leads = refl }),
            subst (IsBelow (rooted low name)) (sym leads) (below_rooted low high name below),
          )
      record_follows (Batch items) r low high next below spelled leads =
          inr (by_kind 3 r.1 spelled.kind, subst (IsBelow low) (sym leads) (below_set low high items below))

      follows : (r : VersionedEntry) (low high next : ProgramImage F) → IsBelow low high → rules.Leads r high next → Follows r.1 low next
      follows r low high next below leads = elim leads [
        | inl does ↦ record_follows does.value r low high next below does.spelled does.leads
        | inr part ↦ inr (by_kind 4 r.1 part.kind, subst (IsBelow low) (sym part.leads) (below_set low high part.items below))
      ]

      -- the commands among records that are numbered from there on, without their numbers, in the second version
      abbrev command_entries : ℕ → List VersionedEntry → List VersionedEntry
      command_entries number records = in_version Two (map unnumbered (filter is_command (numbered_from number (map plain records))))

      -- that record, if it is one, and those among the records behind it
      abbrev command_entries_with : Bool → ℕ → Entry → List VersionedEntry → List VersionedEntry
      command_entries_with is number entry records =
          let rest = filter is_command (numbered_from (number + 1) (map plain records)) in
          in_version Two (map unnumbered (cond is ((number, entry) ∷ rest) rest))

      -- commands lead to an image below
      abbrev LeadBelow : List VersionedEntry → (low now : ProgramImage F) → Type 0
      LeadBelow commands low now = (before : ProgramImage F) × LeadTo rules commands low before × IsBelow before now

      commands_below : (number : ℕ) (records : List VersionedEntry) (low high now : ProgramImage F) → IsBelow low high → LeadTo rules records high now
          → LeadBelow (command_entries number records) low now
      commands_below number [] low high now below same = (low, refl, subst (IsBelow low) same below)
      commands_below number (r ∷ records) low high now below (next, leads, rest) =
          by (follows r low high next below leads) (λ after on. commands_below (number + 1) records after next now on rest)
        where
          by : Follows r.1 low next → ((after : ProgramImage F) → IsBelow after next → LeadBelow (command_entries (number + 1) records) after now)
              → LeadBelow (command_entries number (r ∷ records)) low now
          by (inl (command, after, does, on)) others =
              let more = others after on in
              (more.0, subst (λ (b : Bool). LeadTo rules (command_entries_with b number r.1 records) low more.0) (sym (command number)) (after, does, more.1), more.2)
          by (inr (other, on)) others =
              let more = others low on in
              (more.0, subst (λ (b : Bool). LeadTo rules (command_entries_with b number r.1 records) low more.0) (sym (other number)) more.1, more.2)

-- ---- the parts
module _ {F L : Type 0} (a : Analysis F L) where
  pub commands_stay_below : CommandsStayBelow a
  commands_stay_below records now folded =
      commands_below a.functions a.same (forms_of a) 0 records (slots_of a).empty (slots_of a).empty now (below_itself (slots_of a).empty) folded

  -- parts lead to the image that their items make
  parts_lead : (items : List (Item F)) (parts : List Entry) (image now : ProgramImage F) → AreInParts (forms_of a) items parts
      → image.program ≡ now.program → image.roots ≡ now.roots → ((key : Key) → unwrap_or (named items key) (image_entry image key) ≡ image_entry now key)
      → LeadTo (slots_of a) (in_version Two parts) image now
  parts_lead items [] image now none program roots made =
      let same : (key : Key) → image_entry image key ≡ image_entry now key =
      λ key. subst (λ (xs : List (Item F)). unwrap_or (named xs key) (image_entry image key) ≡ image_entry now key) none (made key) in
      λ i. record { program = program i; roots = roots i; get = λ key. (same key i).0; pending = λ key. (same key i).1 }
  parts_lead items (part ∷ parts) image now (is, more) program roots made = (
    with_items image (take 65536 items),
    inr (record { items = take 65536 items; kind = is.proper.kind; spelled = is.spelled; leads = refl }),
    parts_lead (drop 65536 items) parts (with_items image (take 65536 items)) now more program roots (λ key.
        sym (then_behind (take 65536 items) (drop 65536 items) key (image_entry image key))
        ∙ ap (λ (xs : List (Item F)). unwrap_or (named xs key) (image_entry image key)) (take-append-drop 65536 items)
        ∙ made key),
  )

  -- the items of a core make its image of each image below
  core_made : (core : CoreData F) (items : List (Item F)) (before now : ProgramImage F) → AreItems core items → HasImage now core → IsBelow before now
      → (key : Key) → unwrap_or (named items key) (image_entry before key) ≡ image_entry now key
  core_made core items before now are has below key = items_make items key (image_entry before key) (image_entry now key) each (some (found core.table key) refl)
    where
      each : (f : F) (waits : Bool) → IsIn (key, f, waits) items → (Some f, waits) ≡ image_entry now key
      each f waits among =
          let exact = (are.exact key f waits).0 (contains-in among) in
          let function : Some f ≡ now.get key = sym exact.0 ∙ sym (has.get key) in
          let pending : waits ≡ now.pending key = exact.1 ∙ sym (has.pending key) in
          λ i. (function i, pending i)

      some : (o : Option F) → found core.table key ≡ o
          → ((f : F) × (waits : Bool) × IsIn (key, f, waits) items) ⊎ (image_entry before key ≡ image_entry now key)
      some None is = inr (below.absent key (has.get key ∙ is))
      some (Some f) is = inl (f, is_pending core.pile key, in-contains items _ ((are.exact key f (is_pending core.pile key)).1 (is, refl)))

  pub parts_lead_up : PartsLeadUp a
  parts_lead_up table parts before now are has below =
      parts_lead are.items parts before now are.in_parts below.program below.roots (core_made table.core are.items before now are.are has below)

  -- and may stand in a checkpoint
  pub parts_proper : (items : List (Item F)) (parts : List Entry) → AreInParts (forms_of a) items parts → All IsPartEntry parts
  parts_proper items [] none = All-nil IsPartEntry
  parts_proper items (part ∷ parts) (is, more) = All-cons IsPartEntry part parts is.proper (parts_proper (drop 65536 items) parts more)

  pub image_parts_make : ImagePartsMakeCheckpoints a
  image_parts_make table records parts now are folded has some =
      let below = commands_stay_below records now folded in
      record {
        some = some;
        few = are.few;
        proper = parts_proper are.items parts are.in_parts;
        before = below.0;
        now = now;
        commands = below.1;
        lead = parts_lead_up table parts below.0 now are has below.2;
        whole = folded;
      }

-- ---- items are cut into parts
-- keys that ascend do so behind others and before them
behind_sorted : (front keys : List Key) → IsStrictlySortedBy key_cmp (front ++ keys) → IsStrictlySortedBy key_cmp keys
behind_sorted [] keys sorted = sorted
behind_sorted (key ∷ front) keys sorted = behind_sorted front keys (sorted_tail key_cmp key (front ++ keys) sorted)

before_sorted : (keys behind : List Key) → IsStrictlySortedBy key_cmp (keys ++ behind) → IsStrictlySortedBy key_cmp keys
before_sorted keys behind sorted =
    sorted_from_all_adjacent key_cmp_total keys (Jump 0 0 0) (λ k within.
    let longer = length-append keys behind in
    let less = Less-from_sorted key_cmp (keys ++ behind) k (k + 1) (Jump 0 0 0) sorted (omega arith) (omega arith) in
    rw (get_or_append_left keys behind (Jump 0 0 0) k (omega arith), get_or_append_left keys behind (Jump 0 0 0) (k + 1) within) at less)

module _ {F : Type 0} (forms : Functions F) where
  not_both : (a b : Bool) → not (a && b) ≡ (not a || not b)
  not_both true b = refl
  not_both false b = refl

  -- items that are not written, though they are few and ascend, have one that no record spells
  pub not_written : (items : List (Item F)) → 1 ≤ length items → length items ≤ 65536 → IsStrictlySortedBy key_cmp (map (λ item. item.0) items)
      → (AreWritten forms items → ⊥) → IsSpellStop forms items Limit
  not_written items some few ascending never = by (all_proper (is_proper_item forms) items) refl
    where
      by : (b : Bool) → all_proper (is_proper_item forms) items ≡ b → IsSpellStop forms items Limit
      by true all = absurd (never (record { some = some; few = few; ascending = ascending; proper = all }))
      by false not_all =
          let fails : Item F → Bool = λ item. not (is_proper_item forms item) in
          let any : list_any fails items ≡ true =
          sym (same_from_clauses (λ xs. not (all_proper (is_proper_item forms) xs)) (list_any fails) (λ item b. fails item || b) refl
          (λ item xs. not_both (is_proper_item forms item) (all_proper (is_proper_item forms) xs)) (λ item xs. refl) items) ∙ ap not not_all in
          let found = Any-from_list_any fails items any in
          one_not_spelled found.1 (found.0, found.2, found.3) (not-true (is_proper_item forms found.1) found.4)

  -- what keeps items from being spelled keeps others from it that they are among
  pub stop_among : (some all : List (Item F)) → ((item : Item F) → Contains some item → Contains all item) → (refused : Refused)
      → IsSpellStop forms some refused → IsSpellStop forms all refused
  stop_among some all among _ (one_not_spelled item there improper) = one_not_spelled item (among item there) improper
  stop_among some all among _ wants_memory = wants_memory

  -- no more parts than there are times 65,536 items
  pub few_parts : (count : ℕ) (items : List (Item F)) (parts : List Entry) → AreInParts forms items parts → length items ≤ 65536 * count
      → length parts ≤ count
  few_parts count items [] none long = omega arith
  few_parts zero items (part ∷ parts) (is, more) long =
      let some : 1 ≤ length (take 65536 items) = is.some in
      absurd (omega (arith, some, length-take 65536 items, long))
  few_parts (suc count) items (part ∷ parts) (is, more) long =
      let rest : length parts ≤ count = few_parts count (drop 65536 items) parts more (omega (arith, length-drop 65536 items, long)) in
      omega (arith, rest)

  -- the rest of the items, behind those of these parts
  pub record IsRest (items rest : List (Item F)) (parts : List Entry) : Type 0 where
    pub front : List (Item F)
    pub split : items ≡ front ++ rest
    pub in_parts : (more : List Entry) → AreInParts forms rest more → AreInParts forms items (parts ++ more)

  pub rest_of_none : (items : List (Item F)) → IsRest items items []
  rest_of_none items = record { front = []; split = refl; in_parts = λ more are. are }

  pub rest_of_all : (items rest : List (Item F)) (parts : List Entry) → IsRest items rest parts → length rest ≡ 0 → AreInParts forms items parts
  rest_of_all items rest parts is none =
      subst (AreInParts forms items) (append-nil parts) (is.in_parts [] (nil_from_length rest none))

  -- one part more
  module _ (items rest chunk behind : List (Item F)) (parts : List Entry) (is : IsRest items rest parts) (cut : rest ≡ chunk ++ behind) where
    rest_of_more : (part : Entry) → length chunk ≡ min 65536 (length rest) → IsImagePart forms chunk part → IsRest items behind (parts ++ part ∷ [])
    rest_of_more part long spells = record {
      front = is.front ++ chunk;
      split = is.split ∙ ap (λ (xs : List (Item F)). is.front ++ xs) cut ∙ sym (append_assoc is.front chunk behind);
      in_parts = λ more are.
          let first : take 65536 rest ≡ chunk =
          sym (take_min 65536 rest) ∙ ap (take (min 65536 (length rest))) cut ∙ take_at chunk behind (min 65536 (length rest)) long in
          let others : drop 65536 rest ≡ behind =
          sym (drop_min 65536 rest) ∙ ap (drop (min 65536 (length rest))) cut ∙ drop_at chunk behind (min 65536 (length rest)) long in
          subst (AreInParts forms items) (sym (append_assoc parts (part ∷ []) more))
          (is.in_parts (part ∷ more) (
            subst (λ (xs : List (Item F)). IsImagePart forms xs part) (sym first) spells,
            subst (λ (xs : List (Item F)). AreInParts forms xs more) (sym others) are,
          ));
    }

    -- its items are among all
    pub among_all : (item : Item F) → Contains chunk item → Contains items item
    among_all item among =
        let here : Contains rest item = subst (λ (xs : List (Item F)). Contains xs item) (sym cut) (Contains-append_left chunk behind item among) in
        subst (λ (xs : List (Item F)). Contains xs item) (sym is.split) (Contains-append_right is.front rest item here)

    -- and their keys ascend, if those of all do
    pub chunk_ascends : IsStrictlySortedBy key_cmp (map (λ item. item.0) items) → IsStrictlySortedBy key_cmp (map (λ item. item.0) chunk)
    chunk_ascends sorted =
        let key : Item F → Key = λ item. item.0 in
        let all : map key items ≡ map key is.front ++ (map key chunk ++ map key behind) =
        ap (map key) (is.split ∙ ap (λ (xs : List (Item F)). is.front ++ xs) cut)
        ∙ map-append key is.front (chunk ++ behind)
        ∙ ap (λ (keys : List Key). map key is.front ++ keys) (map-append key chunk behind) in
        before_sorted (map key chunk) (map key behind)
        (behind_sorted (map key is.front) (map key chunk ++ map key behind) (subst (IsStrictlySortedBy key_cmp) all sorted))

  -- one that was pushed behind the others
  pub rest_of_pushed : (items rest chunk behind : List (Item F)) (raws pushed : List RawRecord) (raw : RawRecord) (size : ℕ)
      → IsRest items rest (entries_of raws) → size ≡ 65536 → rest ≡ chunk ++ behind → length chunk ≡ min size (length rest)
      → IsImagePart forms chunk (entry_of raw) → pushed ≡ raws ++ raw ∷ [] → IsRest items behind (entries_of pushed)
  rest_of_pushed items rest chunk behind raws pushed raw size is sized cut long spells more =
      subst (IsRest items behind) (sym (map-append entry_of raws (raw ∷ [])) ∙ ap entries_of (sym more))
      (rest_of_more items rest chunk behind (entries_of raws) is cut (entry_of raw) (long ∙ ap (λ n. min n (length rest)) sized) spells)

-- items of a core in parts, of which there are few, are its image in parts
pub image_parts_are : {F L : Type 0} (a : Analysis F L) (table : TableData F) (items : List (Item F)) (parts : List Entry) → AreItems table.core items
    → AreInParts (forms_of a) items parts → length items ≤ 281474976645120 → AreImageParts a table parts
image_parts_are a table items parts are in_parts long =
    record { items = items; are = are; in_parts = in_parts; few = few_parts (forms_of a) 4294967295 items parts in_parts (omega (arith, long)) }

-- what keeps the items of a core from being spelled keeps its image from being given in parts
pub parts_stop : {F L : Type 0} (a : Analysis F L) (table : TableData F) (items : List (Item F)) → AreItems table.core items → (refused : Refused)
    → IsSpellStop (forms_of a) items refused → IsPartsStop a table refused
parts_stop a table items are _ (one_not_spelled item among improper) = key_not_spelled item ((are.exact item.0 item.1 item.2).0 among).0 improper
parts_stop a table items are _ wants_memory = memory_is_wanting

-- items of a core are those of the half that lends it
pub items_in : {F : Type 0} (core lent : CoreData F) (items : List (Item F)) → lent ≡ core → AreItems lent items → AreItems core items
items_in core lent items same are = subst (λ (c : CoreData _). AreItems c items) same are
