-- The slots of what is left of notes on a grid: as they are read, their keys ascend.
use Rattle.std.proofs.Common.{◌≡◌, ℕ, zero, suc, ◌+◌, ◌*◌, ◌/◌, ◌%◌, ◌<◌, ⊎_elim, refl, sym, ap, subst, ◌∙◌, arith, cond, Bool, true, false, List, [], ◌∷◌, Option, None, Some, get_or, length, map}
use Rattle.std.specs.Prelude.{◌||◌, nat_eq, slice_get, slice_index, unwrap_or}
use Rattle.std.specs.Map.{lookup}
use Rattle.std.specs.List.{All, AllByRecursion, Contains, cons_option, filter_map, list_any}
use Rattle.std.specs.List.Sorted.{IsSortedByKey, IsStrictlySortedBy}
use Rattle.std.specs.Option.{is_some, option_map}
use Rattle.std.specs.Ordering.{nat_cmp}
use Rattle.std.specs.declared.cmp.Ordering.TheVariants.{Less}
use Rattle.std.proofs.lemmas.Bool.{cases_lt, eq-eqb}
use Rattle.std.proofs.lemmas.Bool.Decides.{nat_tests}
use Rattle.std.proofs.lemmas.Map.Views.{Contains-from_any}
use Rattle.std.proofs.lemmas.Option.{same_Some}
use Rattle.std.proofs.lemmas.List.{length-map}
use Rattle.std.proofs.lemmas.List.Elements.{All-cons, All-head, All-nil, All-tail}
use Rattle.ide_wire.specs.KeyOrder.{key_cmp}
use Rattle.ide_wire.specs.Key.{same_key, same_key_exact}
use Rattle.ide_wire.specs.declared.key.Key.{Key}
use Rattle.ide_wire.specs.declared.key.Key.TheVariants.{Jump}
use Rattle.ide_image.specs.ChangeLog.{ChangeLog, noted_at}
use Rattle.ide_image.specs.Notes.{noted}
use Rattle.ide_image.specs.declared.claim.Claim.{Claim}
use Rattle.ide_image.specs.Cells.{key_behind, shown_in, tables_of}
use Rattle.ide_image.specs.Grid.{AreNumbersTo, AreRanksOn, AreRead, IsOn, IsRow, IsRowNumber, TellsOneOf, start_at}
use Rattle.ide_image.specs.Indexed.{Indexed, entry_in, function_of, place_of_key}
use Rattle.ide_image.specs.KeyedImage.{AreParts, pending_by_slot}
use Rattle.ide_image.specs.Left.{is_left, left_by_slot, left_of}
use Rattle.ide_image.specs.Queue.{SlotMarks, pending_at}
use Rattle.ide_image.specs.Ranks.{AreAmong, AreSlots, HasRank, HaveItems, HaveTheItems, SaysIfLeftAt, item_in, items_in, key_rank, left_by_slots}
use Rattle.ide_image.specs.declared.entry.Entry.{Entry}
use Rattle.ide_image.proofs.Agree.{at-index}
use Rattle.ide_image.proofs.Columns.{shown-at}
use Rattle.ide_image.proofs.Picked.{picked, picked-up}
use Rattle.ide_image.proofs.Ranks.{by-rank, item-at, stands}
use Rattle.ide_image.proofs.Rows.{key_step, rank-behind, step-told}
use Rattle.ide_image.proofs.Spots.{place-at}

module _ {X Y : Type 0} (f : X → Option Y) where
  -- what is among others is among them behind what comes of one element more
  pub behind-first : (o : Option Y) (ys : List Y) (y : Y) → Contains ys y → Contains (cons_option o ys) y
  behind-first None ys y there = there
  behind-first (Some z) ys y there = (suc there.0, omega (arith, there.1), there.2)

  count-first : (o : Option Y) (ys : List Y) → is_some o ≡ true → length (cons_option o ys) ≡ suc (length ys)
  count-first None ys is = absurd (cc (is))
  count-first (Some y) ys is = refl

  -- as many come of elements of each of which something comes
  pub count-items : (xs : List X) → All (λ x. is_some (f x) ≡ true) xs → length (filter_map f xs) ≡ length xs
  count-items [] each = refl
  count-items (x ∷ xs) each =
      count-first (f x) (filter_map f xs) (All-head (λ x. is_some (f x) ≡ true) x xs each)
      ∙ ap suc (count-items xs (All-tail (λ x. is_some (f x) ≡ true) x xs each))

same-number : (m n : ℕ) → nat_eq m n ≡ true → m ≡ n
same-number m n is = grind (arith, nat_tests)

module _ {F : Type 0} (same : F → F → Bool) (indexed : Indexed F) (marks : SlotMarks) where
  abbrev left_of_note : Key × Entry F → Option (Key × F × Bool)
  left_of_note note = left_by_slot same indexed marks note.0 note.1

  -- what is left of a key is told by its slot
  left-told : (key : Key) (before : Entry F) (slot : ℕ) (item : Key × F × Bool) → place_of_key indexed key ≡ suc slot
      → left_by_slot same indexed marks key before ≡ Some item → item_in indexed marks slot ≡ Some item
  left-told key before slot item place left =
      let waits = pending_by_slot indexed marks key in
      let at : slot + 1 ≡ place_of_key indexed key = omega (arith, place) in
      elim (function_of indexed.cells key) as (λ o. function_of indexed.cells key ≡ o → left_of same key o waits before ≡ Some item → item_in indexed marks slot ≡ Some item) [
        | None ↦ λ none is. absurd (cc (is))
        | Some f ↦ λ own is.
            elim (is_left same (Some f) before.function waits before.pending) as (λ b. cond b (Some (key, f, waits)) None ≡ Some item → item_in indexed marks slot ≡ Some item) [
              | true ↦ λ is. item-at indexed marks key slot f waits (sym at) own (at-index (pending_at marks.list) (place_of_key indexed key) slot at) ∙ is
              | false ↦ λ is. absurd (cc (is))
            ] is
      ] refl left

  first-told : (note : Key × Entry F) (slot : ℕ) (rest : List (Key × F × Bool)) → place_of_key indexed note.0 ≡ suc slot → is_some (left_of_note note) ≡ true
      → TellsOneOf indexed marks (cons_option (left_of_note note) rest) slot
  first-told note slot rest place some =
      elim (left_of_note note) as (λ o. left_of_note note ≡ o → is_some o ≡ true → TellsOneOf indexed marks (cons_option o rest) slot) [
        | None ↦ λ none is. absurd (cc (is))
        | Some item ↦ λ own is. record { item = item; is = left-told note.0 note.1 slot item place own; among = (0, omega arith, refl) }
      ] refl some

  -- where something is left of a note, the slot beside it tells that
  tells-beside : (notes : List (Key × Entry F)) (slots : List ℕ) (i slot : ℕ) → AreSlots (place_of_key indexed) notes slots
      → slice_get slots i ≡ Some slot → SaysIfLeftAt same indexed marks notes i true → TellsOneOf indexed marks (left_by_slots same indexed marks notes) slot
  tells-beside [] [] i slot beside there says = absurd (cc (there))
  tells-beside [] (s ∷ ss) i slot beside there says = absurd (cc (beside))
  tells-beside (n ∷ ns) [] i slot beside there says = absurd (cc (beside))
  tells-beside (n ∷ ns) (s ∷ ss) zero slot beside there says =
      let place : place_of_key indexed n.0 ≡ suc s = cc (beside) in
      subst (TellsOneOf indexed marks (left_by_slots same indexed marks (n ∷ ns))) (same_Some s slot there)
      (first-told n s (left_by_slots same indexed marks ns) place (sym (says n refl)))
  tells-beside (n ∷ ns) (s ∷ ss) (suc i) slot beside there says =
      let rest : AreSlots (place_of_key indexed) ns ss = cc (beside) in
      let tells = tells-beside ns ss i slot rest there says in
      record {
        item = tells.item;
        is = tells.is;
        among = behind-first left_of_note (left_of_note n) (left_by_slots same indexed marks ns) tells.item tells.among;
      }

  -- where something is left of each note, each slot of one tells that, and as much is left as there are notes
  module _ (notes : List (Key × Entry F)) (all : (i : ℕ) → i < length notes → SaysIfLeftAt same indexed marks notes i true) where
    pub told-noted : (slots : List ℕ) (noted : ℕ → Bool) → AreSlots (place_of_key indexed) notes slots → AreAmong noted slots → (slot : ℕ) → noted slot ≡ true
        → TellsOneOf indexed marks (left_by_slots same indexed marks notes) slot
    told-noted slots noted beside among slot is =
        let at = Contains-from_any same-number slot slots (among slot is) in
        let long : length notes ≡ length slots = sym (length-map notes (λ note. place_of_key indexed note.0)) ∙ ap length beside ∙ length-map slots suc in
        tells-beside notes slots at.0 slot beside (stands slots at.0 slot at.1 ∙ ap (λ n. Some n) at.2) (all at.0 (omega (arith, at.1, long)))

    pub count-left : length (left_by_slots same indexed marks notes) ≡ length notes
    count-left = count-items left_of_note notes (λ i d within. sym (all i within (get_or notes i d) (stands notes i d within)))

-- each slot that a log has marked is that of a note
pub noted-among : {F T : Type 0} (indexed : Indexed F) (marks : SlotMarks) (claims : List (Option (Claim T))) (changes : ChangeLog F) → AreParts indexed marks claims changes
    → AreAmong (noted_at changes) changes.slots
noted-among {F} indexed marks claims changes whole slot is =
    let within : slot < length indexed.cells =
    ⊎_elim (λ l. l) (λ r. let not = whole.unnoted slot r in absurd (cc (is, not))) (cases_lt slot (length indexed.cells)) in
    let cell = get_or indexed.cells slot (Jump 0 0 0, None) in
    let place : place_of_key indexed cell.0 ≡ slot + 1 =
    place-at indexed.cells slot (Some cell) (sym (stands indexed.cells slot (Jump 0 0 0, None) within)) whole.distinct in
    let known = sym (whole.listed cell.0) ∙ at-index (noted_at changes) (place_of_key indexed cell.0) slot (sym place) ∙ is in
    among-slots cell.0 (omega (arith, place)) (unwrap_or changes.list []) changes.slots whole.slotted (ap is_some (sym (in-list changes.list cell.0)) ∙ known)
  where
    in-list : (list : Option (List (Key × Entry F))) (key : Key) → noted list key ≡ lookup (same_key key) (unwrap_or list [])
    in-list None key = refl
    in-list (Some list) key = refl

    or-second : (a b : Bool) → b ≡ true → (a || b) ≡ true
    or-second true b is = refl
    or-second false b is = is

    among-slots : (key : Key) → place_of_key indexed key ≡ suc slot → (notes : List (Key × Entry F)) (slots : List ℕ) → AreSlots (place_of_key indexed) notes slots
        → is_some (lookup (same_key key) notes) ≡ true → list_any (nat_eq slot) slots ≡ true
    among-slots key place [] slots beside has = absurd (cc (has))
    among-slots key place (n ∷ ns) [] beside has = absurd (cc (beside))
    among-slots key place (n ∷ ns) (s ∷ ss) beside has =
        elim (same_key key n.0) as (λ b. same_key key n.0 ≡ b → is_some (cond b (Some n.1) (lookup (same_key key) ns)) ≡ true → (nat_eq slot s || list_any (nat_eq slot) ss) ≡ true) [
          | true ↦ λ own has.
              let here : place_of_key indexed n.0 ≡ suc s = cc (beside) in
              let one = ap (place_of_key indexed) (same_key_exact key n.0 own) in
              ap (λ b. b || list_any (nat_eq slot) ss) (eq-eqb slot s (omega (arith, place, here, one)))
          | false ↦ λ own has.
              let rest : AreSlots (place_of_key indexed) ns ss = cc (beside) in
              or-second (nat_eq slot s) (list_any (nat_eq slot) ss) (among-slots key place ns ss rest has)
        ] refl has

rank-less : (m n : ℕ) → m < n → nat_cmp m n ≡ Less
rank-less m n less = grind (arith, nat_tests)

module _ {F : Type 0} (indexed : Indexed F) (marks : SlotMarks) where
  -- the entry of a slot that has an item
  shown-item : (slot : ℕ) (item : Key × F × Bool) → item_in indexed marks slot ≡ Some item
      → (e : Key × F) × (shown_in (tables_of indexed) slot ≡ Some e) × (e.0 ≡ item.0)
  shown-item slot item is = from (entry_in indexed.cells slot) (sym (shown-at indexed.cells slot)) is
    where
      from : (o : Option (Key × F)) → shown_in (tables_of indexed) slot ≡ o
          → option_map (λ (entry : Key × F). (entry.0, entry.1, pending_at marks.list slot)) o ≡ Some item
          → (e : Key × F) × (shown_in (tables_of indexed) slot ≡ Some e) × (e.0 ≡ item.0)
      from None shows is = absurd (cc (is))
      from (Some e) shows is = (e, shows, ap (λ (i : Key × F × Bool). i.0) (same_Some (e.0, e.1, pending_at marks.list slot) item is))

  -- slots on a grid have items, which are among what is left, where each noted slot tells something of that
  module _ (left : List (Key × F × Bool)) (noted : ℕ → Bool) (told : (slot : ℕ) → noted slot ≡ true → TellsOneOf indexed marks left slot) (pages : List ℕ) where
    have-items : (slots : List ℕ) → All (IsOn noted pages) slots → HaveItems indexed marks slots
    have-items slots each k d within = let tells = told (get_or slots k d) (each k d within).marked in ap is_some tells.is

    among-left : (slots : List ℕ) → All (IsOn noted pages) slots → All (Contains left) (items_in indexed marks slots)
    among-left [] each = All-nil (Contains left)
    among-left (s ∷ ss) each =
        let tells = told s (All-head (IsOn noted pages) s ss each).marked in
        let rest = among-left ss (All-tail (IsOn noted pages) s ss each) in
        subst (λ o. All (Contains left) (cons_option o (items_in indexed marks ss))) (sym tells.is)
        (All-cons (Contains left) tells.item (items_in indexed marks ss) tells.among rest)

    -- ---- the order of keys

    module _ (numbers : List ℕ) (are : AreNumbersTo indexed pages (length pages) numbers) (d : Key × F × Bool) where
      abbrev slot-item : ℕ → Key × F × Bool
      slot-item slot = unwrap_or (item_in indexed marks slot) d

      -- the rank of a slot's key
      abbrev rank_in : ℕ → ℕ
      rank_in slot = key_rank (slot-item slot).0

      item-is : (slot : ℕ) (has : IsOn noted pages slot) → slot-item slot ≡ (told slot has.marked).item
      item-is slot has = ap (λ o. unwrap_or o d) (told slot has.marked).is

      -- the key of a slot stands so many cells behind the first one of its page
      ranked-on : (page offset slot : ℕ) (row : IsRow indexed page) → slot ≡ 64 * page + offset → offset < 64 → (has : IsOn noted pages slot)
          → HasRank (slot-item slot).0 × (rank_in slot ≡ key_rank row.first + offset * key_step row.first)
      ranked-on page offset slot row is low has =
          let tells = told slot has.marked in
          let shown = shown-item slot tells.item tells.is in
          let on-page : slot / 64 ≡ page = omega (arith, is, low) in
          let at : slot % 64 ≡ offset = omega (arith, is, low) in
          let behind : (slot-item slot).0 ≡ key_behind row.first offset =
          ap (λ (i : Key × F × Bool). i.0) (item-is slot has) ∙ sym shown.2 ∙ row.begins slot shown.0 on-page shown.1 ∙ ap (key_behind row.first) at in
          let ranked = rank-behind row.first offset row.ranked row.whole low in
          (subst HasRank (sym behind) ranked.0, ap key_rank behind ∙ ranked.1)

      has-rank : (slot : ℕ) → IsOn noted pages slot → HasRank (slot-item slot).0
      has-rank slot has =
          let at = has.page in
          (ranked-on (slice_index pages at.0) (slot % 64) slot (are.rows at.0 at.1.there) (omega (arith, at.1.is)) (omega arith) has).0

      -- rows tell the ranks of their slots' keys
      ranks-on : AreRanksOn noted (λ i. start_at pages (slice_index numbers i)) numbers rank_in
      ranks-on i offset there low is =
          let number = slice_index numbers i in
          let slot = start_at pages number + offset in
          let one : IsRowNumber indexed pages number = are.each i 0 there in
          let page : slice_index pages (number % 65536) ≡ slot / 64 = omega (arith, low) in
          let has : IsOn noted pages slot = record { marked = is; page = (number % 65536, record { there = one.there; is = page }) } in
          (ranked-on (slice_index pages (number % 65536)) offset slot one.row refl low has).1
          ∙ ap (λ n. n + offset * key_step one.row.first) (sym one.rank)
          ∙ ap (λ step. number / 65536 + offset * step) (sym (step-told one.row.first number one.row.ranked one.rank))

      key-below : (slot next : ℕ) → IsOn noted pages slot → IsOn noted pages next → rank_in slot < rank_in next → key_cmp (slot-item slot).0 (slot-item next).0 ≡ Less
      key-below slot next has there less =
          sym (by-rank (slot-item slot).0 (slot-item next).0 (has-rank slot has) (has-rank next there)) ∙ rank-less (rank_in slot) (rank_in next) less

      -- what is read is in the order of keys
      items-of : (slot : ℕ) (slots : List ℕ) → IsOn noted pages slot → items_in indexed marks (slot ∷ slots) ≡ slot-item slot ∷ items_in indexed marks slots
      items-of slot slots has =
          ap (λ o. cons_option o (items_in indexed marks slots)) (told slot has.marked).is ∙ ap (λ i. i ∷ items_in indexed marks slots) (sym (item-is slot has))

      above-all : (slot : ℕ) (slots : List ℕ) → IsOn noted pages slot → All (IsOn noted pages) slots → ((j : ℕ) → j < length slots → rank_in slot < rank_in (slice_index slots j))
          → AllByRecursion (λ k. key_cmp (slot-item slot).0 k ≡ Less) (map (λ (i : Key × F × Bool). i.0) (items_in indexed marks slots))
      above-all slot [] has each above = tt
      above-all slot (s ∷ ss) has each above =
          let there = All-head (IsOn noted pages) s ss each in
          let rest = above-all slot ss has (All-tail (IsOn noted pages) s ss each) (λ j within. above (suc j) (omega (arith, within))) in
          subst (λ items. AllByRecursion (λ k. key_cmp (slot-item slot).0 k ≡ Less) (map (λ (i : Key × F × Bool). i.0) items)) (sym (items-of s ss there))
          (key-below slot s has there (above 0 (omega arith)), rest)

      keys-ascend : (slots : List ℕ) → AreRead (IsOn noted pages) rank_in slots → IsStrictlySortedBy key_cmp (map (λ (i : Key × F × Bool). i.0) (items_in indexed marks slots))
      unfolding IsStrictlySortedBy
      keys-ascend [] read = tt
      keys-ascend (s ∷ ss) read =
          let has = All-head (IsOn noted pages) s ss read.each in
          let each = All-tail (IsOn noted pages) s ss read.each in
          let above = above-all s ss has each (λ j within. read.ascend 0 (suc j) (omega arith) (omega (arith, within))) in
          let rest = keys-ascend ss (record { each = each; ascend = λ i j less within. read.ascend (suc i) (suc j) (omega (arith, less)) (omega (arith, within)) }) in
          subst (λ items. IsStrictlySortedBy key_cmp (map (λ (i : Key × F × Bool). i.0) items)) (sym (items-of s ss has)) (above, rest)

      -- slots that are read of the rows are in the order of keys, and those of what is left if they are as many
      module _ (rows slots : List ℕ) (same : rows ≡ numbers)
          (read : (rank : ℕ → ℕ) → AreRanksOn noted (λ i. start_at pages (slice_index rows i)) rows rank → AreRead (IsOn noted pages) rank slots) where
        read-by-rank : AreRead (IsOn noted pages) rank_in slots
        read-by-rank = read rank_in (subst (λ ns. AreRanksOn noted (λ i. start_at pages (slice_index ns i)) ns rank_in) (sym same) ranks-on)

        pub all-left : length slots ≡ length left → HaveTheItems indexed marks left slots
        all-left count =
            let have = have-items slots read-by-rank.each in
            let long : length (items_in indexed marks slots) ≡ length slots = count-items (item_in indexed marks) slots have in
            record {
              have = have;
              same =
                  picked (λ (i : Key × F × Bool). i.0) left (items_in indexed marks slots) (among-left slots read-by-rank.each) (keys-ascend slots read-by-rank)
                  (long ∙ count);
            }

        pub all-sorted : IsSortedByKey (λ (i : Key × F × Bool). i.0) key_cmp (items_in indexed marks slots)
        all-sorted = picked-up (λ (i : Key × F × Bool). i.0) (items_in indexed marks slots) (keys-ascend slots read-by-rank)
