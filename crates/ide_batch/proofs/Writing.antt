-- What a writer of a batch has after each item, and that its bytes are those of the items.
use Rattle.std.specs.Prelude.{◌≡◌, ◌≢◌, ℕ, ◌+◌, ◌≤◌, ◌<◌, Bool, true, false, ◌&&◌, List, [], ◌∷◌, ◌++◌, Some, drop, length, nat_eq, nat_lt, take}
use Rattle.std.specs.Int.{w32, to_le_bytes}
use Rattle.std.specs.List.{flat_map}
use Rattle.std.specs.List.Sorted.{IsStrictlySortedBy}
use Rattle.std.proofs.Common.{ap, sym, subst, refl, ◌∙◌, arith, lit≤, append_assoc, append-nil}
use Rattle.std.proofs.Math.Seq.{drop-append-add, drop-append_seam, take-append_seam}
use Rattle.std.proofs.lemmas.Bool.{cond-false, cond-true, cond_both}
use Rattle.std.proofs.lemmas.Bool.Decides.{nat_tests}
use Rattle.std.proofs.lemmas.List.{length-append}
use Rattle.std.proofs.lemmas.List.Concat.{flat_map-append}
use Rattle.ide_journal.specs.Lists.{entry_of}
use Rattle.ide_journal.specs.declared.record.RawRecord.{RawRecord}
use Rattle.ide_journal.specs.declared.version.Version.{Version}
use Rattle.ide_journal.specs.declared.version.Version.TheVariants.{One, Two}
use Rattle.ide_wire.specs.Key.{node_of}
use Rattle.ide_wire.specs.declared.key.Key.{Key}
use Rattle.ide_wire.specs.declared.key.Key.TheVariants.{Jump, Summary}
use Rattle.ide_batch.specs.Bodies.{AreSpelled, IsEntryOf}
use Rattle.ide_batch.specs.Forms.{counted}
use Rattle.ide_batch.specs.Grouping.{alone, groups_of, is_at, kind_at, member_of}
use Rattle.ide_batch.specs.Groups.{Group, group_form, member_form, members_form}
use Rattle.ide_batch.specs.Items.{AreWritten, Functions, Item, is_proper_item, item_form}
use Rattle.ide_batch.specs.Records.{Batch}
use Rattle.ide_batch.specs.Writing.{AreGrouped, HasNoGroup, Holds, IsAboveLast, IsSpelledBatch, MayFollow, PutsItem, StopsAtItem, WriterData, appended, ended, finished, front_of, headed, in_group, is_in_last, last_key, with_form, with_group, written_over}
use Rattle.ide_batch.specs.Writing as writing
use Rattle.ide_batch.proofs.Grouping.{grouped_body}
use Rattle.ide_batch.proofs.Lists.{proper-push}
use Rattle.ide_batch.proofs.OneMore.{goes_behind, goes_in, rises, was_proper, with_last}
use Rattle.ide_batch.proofs.Short.{journal_takes}

-- four bytes between others are written over

written_there : (front hole behind : List ℕ) (number : ℕ) → length hole ≡ 4
    → written_over (length front) number (front ++ hole ++ behind) ≡ front ++ to_le_bytes w32 number ++ behind
written_there front hole behind number four =
    let before : take (length front) (front ++ (hole ++ behind)) ≡ front = take-append_seam front (hole ++ behind) in
    let four_on : drop (length front + 4) (front ++ (hole ++ behind)) ≡ drop 4 (hole ++ behind) = drop-append-add front (hole ++ behind) 4 in
    let after : drop 4 (hole ++ behind) ≡ behind = ap (λ n. drop n (hole ++ behind)) (sym four) ∙ drop-append_seam hole behind in
    ap (written_over (length front) number) (append_assoc front hole behind)
    ∙ ap (λ xs. xs ++ to_le_bytes w32 number ++ drop (length front + 4) (front ++ (hole ++ behind))) before
    ∙ ap (λ xs. front ++ to_le_bytes w32 number ++ xs) (four_on ∙ after)

-- what the writer has

no_last : (writer : WriterData) (key : Key) → (is_in_last writer key ≡ false) → in_group key writer ≡ with_group (kind_at key) (node_of key) writer
no_last writer key other = cond-false (is_in_last writer key) writer (with_group (kind_at key) (node_of key) writer) other

no_kind : (key : Key) (same : Bool) → (nat_eq 2 (kind_at key) && same) ≡ false
no_kind (Jump n a b) same = refl
no_kind (Summary n a b) same = refl

-- nothing changes but the bytes and the groups
module _ (key : Key) (writer : WriterData) where
  same_version : (in_group key writer).version ≡ writer.version
  same_version =
      cond_both (is_in_last writer key) writer (with_group (kind_at key) (node_of key) writer) (λ w. w.version ≡ writer.version) (λ here. refl) (λ elsewhere. refl)

  same_items : (in_group key writer).items ≡ writer.items
  same_items =
      cond_both (is_in_last writer key) writer (with_group (kind_at key) (node_of key) writer) (λ w. w.items ≡ writer.items) (λ here. refl) (λ elsewhere. refl)

-- the count of the items is the first that changes
abbrev pub counting : WriterData → WriterData
counting writer = record writer { items = writer.items + 1 }

more_items : {F : Type 0} (items : List (Item F)) (item : Item F) (old new : WriterData) → old.items ≡ length items → new.items ≡ old.items + 1
    → new.items ≡ length (items ++ item ∷ [])
more_items items item old new before more = omega (arith, before, more, length-append items (item ∷ []))

module _ {F : Type 0} (functions : Functions F) where
  -- the bytes of groups, with the count of the last one's members
  ended_is : (items : List (Item F)) (writer : WriterData) (is : AreGrouped functions items writer)
      → ended writer ≡ is.count ++ flat_map (group_form functions) (is.before ++ is.group ∷ [])
  ended_is items writer is =
      cond-true (nat_lt 0 writer.groups) _ _ begun
      ∙ ap (λ body. written_over writer.place writer.members body) is.is
      ∙ ap (λ place. written_over place writer.members (front ++ is.hole ++ behind)) is.place
      ∙ ap (λ number. written_over (length front) number (front ++ is.hole ++ behind)) is.members
      ∙ written_there front is.hole behind (length is.group.members) is.four_too
      ∙ append_assoc front (to_le_bytes w32 (length is.group.members)) behind
      ∙ append_assoc (is.count ++ flat_map (group_form functions) is.before) place (to_le_bytes w32 (length is.group.members) ++ behind)
      ∙ append_assoc is.count (flat_map (group_form functions) is.before) (group_form functions is.group)
      ∙ ap (λ xs. is.count ++ (flat_map (group_form functions) is.before ++ xs)) (sym (append-nil (group_form functions is.group)))
      ∙ ap (λ xs. is.count ++ xs) (sym (flat_map-append (group_form functions) is.before (is.group ∷ [])))
    where
      place : List ℕ
      place = is.group.kind ∷ to_le_bytes w32 is.group.node

      front : List ℕ
      front = front_of functions is.count is.before is.group

      behind : List ℕ
      behind = members_form functions is.group.members

      begun : nat_lt 0 writer.groups ≡ true
      begun = let some : 0 < writer.groups = omega (arith, is.begun) in grind (arith, nat_tests, some)

  -- a group of one item, behind those before
  begins : (items : List (Item F)) (before : List (Group F)) (item : Item F) (writer : WriterData) (count : List ℕ) → length count ≡ 4
      → ended writer ≡ count ++ flat_map (group_form functions) before → writer.groups ≡ length before
      → groups_of items ≡ before ++ alone item ∷ [] → AreGrouped functions items (with_form functions item (with_group (kind_at item.0) (node_of item.0) writer))
  begins items before item writer count four bytes begun groups = record {
    before = before;
    group = alone item;
    groups = groups;
    count = count;
    four = four;
    hole = to_le_bytes w32 0;
    four_too = refl;
    is = ap (λ head. head ++ to_le_bytes w32 0 ++ member_form functions (member_of item)) head_is
        ∙ ap (λ one. front_of functions count before (alone item) ++ to_le_bytes w32 0 ++ one) (sym (append-nil (member_form functions (member_of item))));
    kind = refl;
    node = refl;
    place = ap length head_is;
    begun = ap (λ n. n + 1) begun;
    members = refl;
  }
    where
      head_is : headed (kind_at item.0) (node_of item.0) writer ≡ front_of functions count before (alone item)
      head_is = ap (λ xs. xs ++ kind_at item.0 ∷ to_le_bytes w32 (node_of item.0)) bytes

  -- one more member of the last group
  grows : (old items : List (Item F)) (item : Item F) (writer : WriterData) (is : AreGrouped functions old writer)
      → groups_of items ≡ is.before ++ with_last (member_of item) is.group ∷ [] → AreGrouped functions items (with_form functions item writer)
  grows old items item writer is groups = record {
    before = is.before;
    group = with_last (member_of item) is.group;
    groups = groups;
    count = is.count;
    four = is.four;
    hole = is.hole;
    four_too = is.four_too;
    is = ap (λ body. body ++ one) is.is
        ∙ append_assoc (front ++ is.hole) behind one
        ∙ ap (λ xs. front ++ is.hole ++ xs) (ap (λ xs. behind ++ xs) (sym (append-nil one)) ∙ sym (flat_map-append (member_form functions) is.group.members (member_of item ∷ [])));
    kind = is.kind;
    node = is.node;
    place = is.place;
    begun = is.begun;
    members = omega (arith, is.members, length-append is.group.members (member_of item ∷ []));
  }
    where
      one : List ℕ
      one = member_form functions (member_of item)

      front : List ℕ
      front = front_of functions is.count is.before is.group

      behind : List ℕ
      behind = members_form functions is.group.members

  first_group : (item : Item F) (writer : WriterData) → HasNoGroup writer
      → AreGrouped functions (item ∷ []) (writing.with_member functions item writer)
  first_group item writer none =
      let other : is_in_last writer item.0 ≡ false =
      ap (λ k. nat_eq k (kind_at item.0) && nat_eq writer.node (node_of item.0)) none.none ∙ no_kind item.0 (nat_eq writer.node (node_of item.0)) in
      let no_count : nat_lt 0 writer.groups ≡ false = ap (λ n. nat_lt 0 n) none.begun in
      subst (λ w. AreGrouped functions (item ∷ []) (with_form functions item w)) (sym (no_last writer item.0 other))
      (begins (item ∷ []) [] item writer writer.body none.four (cond-false (nat_lt 0 writer.groups) _ _ no_count ∙ sym (append-nil writer.body)) none.begun refl)

  next_member : (x : Item F) (items : List (Item F)) (item : Item F) (writer : WriterData) → AreGrouped functions (x ∷ items) writer
      → AreGrouped functions ((x ∷ items) ++ item ∷ []) (writing.with_member functions item writer)
  next_member x items item writer is =
      let same : is_in_last writer item.0 ≡ is_at is.group item.0 =
      ap (λ k. nat_eq k (kind_at item.0) && nat_eq writer.node (node_of item.0)) is.kind
      ∙ ap (λ n. nat_eq is.group.kind (kind_at item.0) && nat_eq n (node_of item.0)) is.node in
      cond_both (is_in_last writer item.0) writer (with_group (kind_at item.0) (node_of item.0) writer) (λ w. AreGrouped functions ((x ∷ items) ++ item ∷ []) (with_form functions item w))
      (λ here. grows (x ∷ items) ((x ∷ items) ++ item ∷ []) item writer is (goes_in x items item is.before is.group is.groups (sym same ∙ here)))
      (λ elsewhere. begins ((x ∷ items) ++ item ∷ []) (is.before ++ is.group ∷ []) item writer is.count is.four (ended_is (x ∷ items) writer is) (one_more is)
      (goes_behind x items item is.before is.group is.groups (sym same ∙ elsewhere)))
    where
      one_more : (is : AreGrouped functions (x ∷ items) writer) → writer.groups ≡ length (is.before ++ is.group ∷ [])
      one_more is = omega (arith, is.begun, length-append is.before (is.group ∷ []))

  -- only what the forms are about counts
  regrouped : (items : List (Item F)) (old new : WriterData) → new.body ≡ old.body → new.kind ≡ old.kind → new.node ≡ old.node
      → new.place ≡ old.place → new.groups ≡ old.groups → new.members ≡ old.members → AreGrouped functions items old → AreGrouped functions items new
  regrouped items old new body kind node place groups members is = record {
    before = is.before;
    group = is.group;
    groups = is.groups;
    count = is.count;
    four = is.four;
    hole = is.hole;
    four_too = is.four_too;
    is = body ∙ is.is;
    kind = kind ∙ is.kind;
    node = node ∙ is.node;
    place = place ∙ is.place;
    begun = groups ∙ is.begun;
    members = members ∙ is.members;
  }

  written_more : (items : List (Item F)) (item : Item F) (writer : WriterData) (version : Version) → Holds functions version items writer
      → MayFollow functions item writer → IsAboveLast (last_key items) item.0 → AreWritten functions (items ++ item ∷ [])
  unfolding IsStrictlySortedBy
  written_more [] item writer version holds may above = record {
    some = lit≤ tt;
    few = lit≤ tt;
    ascending = rises [] item tt tt;
    proper = proper-push (is_proper_item functions) (λ x. []) [] item refl may.proper;
  }
  written_more (x ∷ items) item writer version holds may above =
      let written = holds.written (omega arith) in
      let long : length ((x ∷ items) ++ item ∷ []) ≡ length (x ∷ items) + 1 = length-append (x ∷ items) (item ∷ []) in
      record {
        some = omega (arith, long);
        few = omega (arith, long, may.few, holds.count);
        ascending = rises (x ∷ items) item above written.ascending;
        proper = proper-push (is_proper_item functions) (λ x. []) (x ∷ items) item written.proper may.proper;
      }

  pub stops : (item : Item F) (writer : WriterData) → ¬ (MayFollow functions item writer) → StopsAtItem functions item writer
  stops item writer never version items rest holds written =
      let long : length (items ++ item ∷ rest) ≡ length items + length (item ∷ rest) = length-append items (item ∷ rest) in
      never (record {
        few = omega (arith, long, written.few, holds.count);
        proper = was_proper (is_proper_item functions) items item rest written.proper;
      })

  -- after one more item
  puts_in : (version : Version) (items : List (Item F)) (item : Item F) (old new : WriterData) → Holds functions version items old
      → MayFollow functions item old → IsAboveLast (last_key items) item.0 → new ≡ appended functions version item (counting old)
      → Holds functions version (items ++ item ∷ []) new
  puts_in One items item old new holds may above is = record {
    version_is = ap (λ w. w.version) is ∙ holds.version_is;
    count = more_items items item old new holds.count (ap (λ w. w.items) is);
    written = λ some. written_more items item old One holds may above;
    begun = record {
      count = holds.begun.count;
      four = holds.begun.four;
      is = ap (λ w. w.body) is
          ∙ ap (λ body. body ++ item_form functions item) holds.begun.is
          ∙ append_assoc holds.begun.count (flat_map (item_form functions) items) (item_form functions item)
          ∙ ap (λ xs. holds.begun.count ++ (flat_map (item_form functions) items ++ xs)) (sym (append-nil (item_form functions item)))
          ∙ ap (λ xs. holds.begun.count ++ xs) (sym (flat_map-append (item_form functions) items (item ∷ [])));
    };
  }
  puts_in Two [] item old new holds may above is = record {
    version_is = ap (λ w. w.version) is ∙ same_version item.0 (counting old) ∙ holds.version_is;
    count = more_items [] item old new holds.count (ap (λ w. w.items) is ∙ same_items item.0 (counting old));
    written = λ some. written_more [] item old Two holds may above;
    begun = regrouped (item ∷ []) (writing.with_member functions item (counting old)) new
        (ap (λ w. w.body) is) (ap (λ w. w.kind) is) (ap (λ w. w.node) is) (ap (λ w. w.place) is) (ap (λ w. w.groups) is) (ap (λ w. w.members) is)
        (first_group item (counting old) (record { four = holds.begun.four; begun = holds.begun.begun; none = holds.begun.none }));
  }
  puts_in Two (x ∷ items) item old new holds may above is = record {
    version_is = ap (λ w. w.version) is ∙ same_version item.0 (counting old) ∙ holds.version_is;
    count = more_items (x ∷ items) item old new holds.count (ap (λ w. w.items) is ∙ same_items item.0 (counting old));
    written = λ some. written_more (x ∷ items) item old Two holds may above;
    begun = regrouped ((x ∷ items) ++ item ∷ []) (writing.with_member functions item (counting old)) new
        (ap (λ w. w.body) is) (ap (λ w. w.kind) is) (ap (λ w. w.node) is) (ap (λ w. w.place) is) (ap (λ w. w.groups) is) (ap (λ w. w.members) is)
        (next_member x items item (counting old) (regrouped (x ∷ items) old (counting old) refl refl refl refl refl refl holds.begun));
  }

  pub puts : (version : Version) (item : Item F) (seen old new : WriterData) → MayFollow functions item old → seen ≡ old
      → new ≡ appended functions version item (counting seen) → PutsItem functions version item old new
  puts version item seen old new may view is items holds above =
      puts_in version items item old new holds may above (is ∙ ap (λ w. appended functions version item (counting w)) view)

  -- the counts are written, and the bytes are those of the items
  spelled : (version : Version) (x : Item F) (items : List (Item F)) (writer : WriterData) → Holds functions version (x ∷ items) writer
      → AreSpelled functions version (x ∷ items) (finished version writer)
  spelled One x items writer holds = record {
    written = holds.written (omega arith);
    is = ap (λ body. written_over 0 writer.items body) holds.begun.is
        ∙ written_there [] holds.begun.count (flat_map (item_form functions) (x ∷ items)) writer.items holds.begun.four
        ∙ ap (λ n. to_le_bytes w32 n ++ flat_map (item_form functions) (x ∷ items)) holds.count;
  }
  spelled Two x items writer holds =
      subst (AreSpelled functions Two (x ∷ items)) (sym bytes) (grouped_body functions (x ∷ items) (holds.written (omega arith)))
    where
      counts : writer.groups ≡ length (holds.begun.before ++ holds.begun.group ∷ [])
      counts = omega (arith, holds.begun.begun, length-append holds.begun.before (holds.begun.group ∷ []))

      bytes : finished Two writer ≡ counted (group_form functions) (groups_of (x ∷ items))
      bytes =
          ap (λ body. written_over 0 writer.groups body) (ended_is (x ∷ items) writer holds.begun)
          ∙ written_there [] holds.begun.count (flat_map (group_form functions) (holds.begun.before ++ holds.begun.group ∷ [])) writer.groups holds.begun.four
          ∙ ap (λ n. to_le_bytes w32 n ++ flat_map (group_form functions) (holds.begun.before ++ holds.begun.group ∷ [])) counts
          ∙ ap (counted (group_form functions)) (sym holds.begun.groups)

  module _ (small : (f : F) → length (functions.form f) ≤ 32) where
    pub finishes : (writer : WriterData) (raw : RawRecord) → writer.items ≢ 0 → raw.kind ≡ 3 → raw.body.items ≡ finished writer.version writer
        → IsSpelledBatch functions writer (Some raw)
    finishes writer raw some kind body version [] holds = absurd (some holds.count)
    finishes writer raw some kind body version (x ∷ items) holds =
        let spells : IsEntryOf functions version (Batch (x ∷ items)) (entry_of raw) = record {
          kind = kind;
          body = subst (AreSpelled functions version (x ∷ items)) (sym (body ∙ ap (λ v. finished v writer) holds.version_is)) (spelled version x items writer holds);
        } in
        record { entry = spells; taken = journal_takes functions small version (Batch (x ∷ items)) (entry_of raw) (holds.written (omega arith)) spells }
