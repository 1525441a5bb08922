-- The noted keys that have another entry now are the keys that changed.
use Rattle.std.proofs.Common.{inl, inr, ◌≡◌, ◌≢◌, ◌+◌, ◌≤◌, refl, sym, ap, subst, ◌∙◌, arith, List, [], ◌∷◌, Option, None, Some, Bool, true, false, cond, map, not, ◌||◌, length}
use Rattle.std.specs.Prelude.{filter, unwrap_or}
use Rattle.std.specs.Bool.{beq}
use Rattle.std.specs.Cmp.{booleans_Decides}
use Rattle.std.specs.List.{Contains, IsDistinct, cons_option, filter_map}
use Rattle.std.specs.List.Sorted.{IsPermutation, IsSorted, IsSortedByKey, IsStrictlySortedBy}
use Rattle.std.specs.Ordering.{is_lt}
use Rattle.std.specs.Map.{keys_of, lookup}
use Rattle.std.specs.Option.{is_some}
use Rattle.std.proofs.lemmas.List.{get_or-map, length-map}
use Rattle.std.proofs.lemmas.List.Sorted.{Contains-permutation, IsPermutation-map, IsPermutation-sym, length_permutation}
use Rattle.std.proofs.lemmas.Map.Keys.{IsDistinct-IsPermutation}
use Rattle.std.proofs.lemmas.Map.Made.{IsDistinct-keys_filter}
use Rattle.std.proofs.lemmas.Map.Views.{Contains-from_lookup, lookup-from_Contains}
use Rattle.ide_lattice.specs.Algebra.{EdgeAlgebra}
use Rattle.ide_image.proofs.Keys.{strictly}
use Rattle.ide_image.proofs.Left.{count-notes}
use Rattle.ide_image.specs.Tables.{found, function_at, or_top}
use Rattle.ide_theory.specs.Member.{IsIn, first, later}
use Rattle.ide_theory.specs.Members.{contains-in, first-or, in-contains, in-map, not-in-empty, of-map}
use Rattle.ide_wire.specs.Key.{same_key, same_key_exact, same_key_laws, same_key_symm}
use Rattle.ide_wire.specs.KeyOrder.{key_cmp}
use Rattle.ide_wire.specs.declared.key.Key.{Key}
use Rattle.ide_image.specs.Worklist.{Pile, is_pending}
use Rattle.ide_image.specs.Notes.{noted_count}
use Rattle.ide_steps.specs.Changed.{standing_entry, entry_then}
use Rattle.ide_steps.specs.Core.{CoreData}
use Rattle.ide_image.specs.KeyedImage.{KeyedImageData}
use Rattle.ide_image.specs.Left.{is_left, left_item, left_items, left_of}
use Rattle.ide_steps.specs.Items.{AreChangedItems, item_of}
use Rattle.ide_image.specs.declared.entry.Entry.{Entry}
use Rattle.ide_steps.proofs.Listed.{keys-of-items}
use Rattle.ide_steps.proofs.Room.{in-filter}

-- whether the note is of a present key that has another entry now
abbrev is_left_of : {F : Type 0} → (F → F → Bool) → CoreData F → Key × Entry F → Bool
is_left_of same core note = is_left same (found core.table note.0) note.1.function (is_pending core.pile note.0) note.1.pending

-- the keys of such notes, in the order of the notes
abbrev pub left_keys : {F : Type 0} → (F → F → Bool) → CoreData F → List (Key × Entry F) → List Key
left_keys same core notes = map (λ note. note.0) (filter (is_left_of same core) notes)

-- what a filter leaves is of the list, and passes
of-filter : {T : Type 0} (test : T → Bool) {x : T} (xs : List T) → IsIn x (filter test xs) → IsIn x xs × (test x ≡ true)
of-filter test [] is = elim (not-in-empty is) [ ]
of-filter test {x} (y ∷ xs) is = by (of-filter test xs) (test y) refl is
  where
    by : (IsIn x (filter test xs) → IsIn x xs × (test x ≡ true)) → (b : Bool) → test y ≡ b → IsIn x (cond b (y ∷ filter test xs) (filter test xs))
        → IsIn x (y ∷ xs) × (test x ≡ true)
    by behind false kept there = let rest = behind there in (later rest.0, rest.1)
    by behind true kept there = elim (first-or there) [
      | inl same ↦ (subst (λ u. IsIn u (y ∷ xs)) (sym same) first, ap test same ∙ kept)
      | inr after ↦ (let rest = behind after in (later rest.0, rest.1))
    ]

module _ {F : Type 0} (same : F → F → Bool) (exact : (f g : F) → same f g ≡ true → f ≡ g) (alike : (f : F) → same f f ≡ true) where
  -- what is left of a note is a present key with another entry
  left-present : (now before : Option F) (waits waited : Bool) → is_left same now before waits waited ≡ true → is_some now ≡ true
  left-present None before waits waited left = absurd (cc (left))
  left-present (Some f) before waits waited left = refl

  not-self : (now : Option F) (waits : Bool) → is_left same now now waits waits ≡ true → ⊥
  not-self None waits left = cc (left)
  not-self (Some f) waits left =
      let no_function : not (same f f) ≡ false = ap not (alike f) in
      let no_pending : not (beq waits waits) ≡ false = ap not ((booleans_Decides waits waits).1 refl) in
      cc (left, no_function, no_pending)

  left-differs : (now before : Entry F) → is_left same now.function before.function now.pending before.pending ≡ true → now ≢ before
  left-differs now before left is =
      not-self now.function now.pending (subst (λ (e : Entry F). is_left same now.function e.function now.pending e.pending ≡ true) (sym is) left)

  other-left : (now before : Option F) (waits waited : Bool) (f : F) → now ≡ Some f → ((now ≡ before) → (waits ≡ waited) → ⊥)
      → is_left same now before waits waited ≡ true
  other-left None before waits waited f is other = absurd (cc (is))
  other-left (Some h) None waits waited f is other = refl
  other-left (Some h) (Some g) waits waited f is other = by (same h g) (beq waits waited) refl refl
    where
      by : (b c : Bool) → same h g ≡ b → beq waits waited ≡ c → (not b || not c) ≡ true
      by false c is_b is_c = refl
      by true false is_b is_c = refl
      by true true is_b is_c = absurd (other (ap (λ (x : F). Some x) (exact h g is_b)) ((booleans_Decides waits waited).0 is_c))

  differs-left : (now before : Entry F) (f : F) → now.function ≡ Some f → now ≢ before
      → is_left same now.function before.function now.pending before.pending ≡ true
  differs-left now before f is other =
      other-left now.function before.function now.pending before.pending f is (λ functions waits. other (λ i. record { function = functions i; pending = waits i }))

  module _ {L : Type 0} (B : EdgeAlgebra F L) (core : CoreData F) where
    abbrev notes : List (Key × Entry F)
    notes = unwrap_or core.changes []

    then-is : (changes : Option (List (Key × Entry F))) (key : Key)
        → entry_then (record core { changes = changes }) key ≡ unwrap_or (lookup (same_key key) (unwrap_or changes [])) (standing_entry core key)
    then-is None key = refl
    then-is (Some list) key = refl

    abbrev test : Key × Entry F → Bool
    test note = is_left_of same core note

    -- a key that is left is present and changed
    of-left : IsDistinct same_key (keys_of (unwrap_or core.changes [])) → (key : Key) → IsIn key (left_keys same core (unwrap_or core.changes []))
        → (is_some (found core.table key) ≡ true) × (standing_entry core key ≢ entry_then core key)
    of-left once key there =
        let note : (x : Key × Entry F) × IsIn x (filter test notes) × (x.0 ≡ key) = of-map (λ (x : Key × Entry F). x.0) (filter test notes) there in
        let kept = of-filter test notes note.1 in
        let is : (note.0.0, note.0.1) ≡ (key, note.0.1) = ap (λ (k : Key). (k, note.0.1)) note.2 in
        let noted : lookup (same_key key) notes ≡ Some note.0.1 =
        lookup-from_Contains same_key_laws key note.0.1 notes once (subst (Contains notes) is (contains-in kept.0)) in
        let changed : test (key, note.0.1) ≡ true = subst (λ (k : Key). test (k, note.0.1) ≡ true) note.2 kept.1 in
        let then : entry_then core key ≡ note.0.1 = then-is core.changes key ∙ ap (λ o. unwrap_or o (standing_entry core key)) noted in (
          left-present (found core.table key) note.0.1.function (is_pending core.pile key) note.0.1.pending changed,
          λ equal. left-differs (standing_entry core key) note.0.1 changed (equal ∙ then),
        )

    -- and each that is so is left
    in-left : (key : Key) (f : F) → found core.table key ≡ Some f → standing_entry core key ≢ entry_then core key
        → IsIn key (left_keys same core (unwrap_or core.changes []))
    in-left key f is other = by (lookup (same_key key) notes) refl
      where
        by : (o : Option (Entry F)) → lookup (same_key key) notes ≡ o → IsIn key (left_keys same core (unwrap_or core.changes []))
        by None none = absurd (other (sym (then-is core.changes key ∙ ap (λ o. unwrap_or o (standing_entry core key)) none)))
        by (Some before) noted =
            let then : entry_then core key ≡ before = then-is core.changes key ∙ ap (λ o. unwrap_or o (standing_entry core key)) noted in
            let listed : IsIn (key, before) notes = in-contains notes (key, before) (Contains-from_lookup same_key_exact key before notes noted) in
            let left : test (key, before) ≡ true = differs-left (standing_entry core key) before f is (λ equal. other (equal ∙ sym then)) in
            in-map (λ (x : Key × Entry F). x.0) (in-filter test listed left)

    present : (o : Option F) → is_some o ≡ true → o ≡ Some (or_top B o)
    present None is = absurd (cc (is))
    present (Some f) is = refl

    module _ (sorted : List Key) (once : IsDistinct same_key (keys_of (unwrap_or core.changes [])))
        (moved : IsPermutation (left_keys same core (unwrap_or core.changes [])) sorted) where
      abbrev left : List Key
      left = left_keys same core (unwrap_or core.changes [])

      listed : (key : Key) (f : F) (waits : Bool) → Contains (map (item_of B core) sorted) (key, f, waits)
          → (found core.table key ≡ Some f) × (waits ≡ is_pending core.pile key) × (standing_entry core key ≢ entry_then core key)
      listed key f waits there =
          let at : (u : Key) × IsIn u sorted × (item_of B core u ≡ (key, f, waits)) =
          of-map (item_of B core) sorted (in-contains (map (item_of B core) sorted) (key, f, waits) there) in
          let is_key : at.0 ≡ key = ap (λ (item : Key × F × Bool). item.0) at.2 in
          let changed = of-left once key (subst (λ u. IsIn u left) is_key
          (in-contains left at.0 (Contains-permutation sorted left at.0 (IsPermutation-sym left sorted moved) (contains-in at.1)))) in (
            present (found core.table key) changed.0
                ∙ (ap (λ u. Some (function_at B core.table u)) (sym is_key) ∙ ap (λ (item : Key × F × Bool). Some item.1) at.2),
            sym (ap (λ (item : Key × F × Bool). item.2) at.2) ∙ ap (is_pending core.pile) is_key,
            changed.1,
          )

      lists : (key : Key) (f : F) (waits : Bool) → found core.table key ≡ Some f → waits ≡ is_pending core.pile key → standing_entry core key ≢ entry_then core key
          → Contains (map (item_of B core) sorted) (key, f, waits)
      lists key f waits is waiting other =
          let there : IsIn key sorted = in-contains sorted key (Contains-permutation left sorted key moved (contains-in (in-left key f is other))) in
          let same_item : item_of B core key ≡ (key, f, waits) = λ i. (key, or_top B (is i), sym waiting i) in
          subst (Contains (map (item_of B core) sorted)) same_item (contains-in (in-map (item_of B core) there))

      pub are-changed : (items : List (Key × F × Bool)) → IsSorted key_cmp sorted → items ≡ map (item_of B core) sorted → AreChangedItems core items
      are-changed items ascends is = subst (AreChangedItems core) (sym is) (record {
        ascending = subst (IsStrictlySortedBy key_cmp) (sym (keys-of-items B core sorted)) (strictly sorted apart ascends);
        exact = λ key f waits. (listed key f waits, λ there. lists key f waits there.0 there.1 there.2);
      })
        where
          apart : IsDistinct same_key sorted
          apart = IsDistinct-IsPermutation same_key same_key_symm left sorted moved (IsDistinct-keys_filter same_key test (unwrap_or core.changes []) once)

module _ {F L : Type 0} (same : F → F → Bool) (B : EdgeAlgebra F L) (core : CoreData F) where
  -- the image of the core
  abbrev image_of : {T : Type 0} → (pile : Pile T) → KeyedImageData F T
  image_of pile = record { table = core.table; pile = pile; changes = core.changes }

  -- what is left of notes are the items of the keys that are
  abbrev passed : Key × Entry F → List (Key × Entry F) → Bool → List (Key × Entry F)
  passed note rest b = cond b (note ∷ rest) rest

  left-one : (note : Key × Entry F) (rest : List (Key × Entry F)) (items : List (Key × F × Bool)) (o : Option F) → found core.table note.0 ≡ o
      → items ≡ map (item_of B core) (map (λ (n : Key × Entry F). n.0) rest)
      → cons_option (left_of same note.0 o (is_pending core.pile note.0) note.1) items
      ≡ map (item_of B core) (map (λ (n : Key × Entry F). n.0) (passed note rest (is_left same o note.1.function (is_pending core.pile note.0) note.1.pending)))
  left-one note rest items None is behind = behind
  left-one note rest items (Some f) is behind = by (is_left same (Some f) note.1.function (is_pending core.pile note.0) note.1.pending)
    where
      own : (note.0, f, is_pending core.pile note.0) ≡ item_of B core note.0
      own = ap (λ o. (note.0, or_top B o, is_pending core.pile note.0)) (sym is)

      by : (b : Bool) → cons_option (cond b (Some (note.0, f, is_pending core.pile note.0)) None) items
          ≡ map (item_of B core) (map (λ (n : Key × Entry F). n.0) (passed note rest b))
      by true = λ i. own i ∷ behind i
      by false = behind

  left-listed : (notes : List (Key × Entry F))
      → filter_map (left_item same (image_of core.pile)) notes ≡ map (item_of B core) (left_keys same core notes)
  left-listed [] = refl
  left-listed (note ∷ notes) =
      left-one note (filter (is_left_of same core) notes) (filter_map (left_item same (image_of core.pile)) notes) (found core.table note.0) refl (left-listed notes)

  -- items of keys are those of their keys, in whatever order
  of-keys : (items : List (Key × F × Bool)) → ((item : Key × F × Bool) → IsIn item items → item ≡ item_of B core item.0)
      → items ≡ map (item_of B core) (map (λ item. item.0) items)
  of-keys [] each = refl
  of-keys (item ∷ items) each =
      let own = each item first in
      let rest = of-keys items (λ x there. each x (later there)) in
      λ i. own i ∷ rest i

  moved-keys : (keys : List Key) (sorted : List (Key × F × Bool)) → IsPermutation (map (item_of B core) keys) sorted
      → sorted ≡ map (item_of B core) (map (λ item. item.0) sorted)
  moved-keys keys sorted moved = of-keys sorted (λ item there.
      let back : Contains (map (item_of B core) keys) item =
      Contains-permutation sorted (map (item_of B core) keys) item (IsPermutation-sym (map (item_of B core) keys) sorted moved) (contains-in there) in
      let at : (u : Key) × IsIn u keys × (item_of B core u ≡ item) = of-map (item_of B core) keys (in-contains (map (item_of B core) keys) item back) in
      sym at.2 ∙ ap (item_of B core) (ap (λ (x : Key × F × Bool). x.0) at.2))

  sorted-keys : (items : List (Key × F × Bool)) → IsSortedByKey (λ item. item.0) key_cmp items → IsSorted key_cmp (map (λ item. item.0) items)
  sorted-keys items ascends k d from less =
      let long = length-map items (λ (item : Key × F × Bool). item.0) in
      let e : Key × F × Bool = (d, B.all_top, false) in
      let here = get_or-map (λ (item : Key × F × Bool). item.0) items k e d (omega (arith, less, long)) in
      let next = get_or-map (λ (item : Key × F × Bool). item.0) items (k + 1) e d (omega (arith, less, long)) in
      (λ i. is_lt (key_cmp (next i) (here i))) ∙ ascends k e from (omega (arith, less, long))

  -- what is left of the notes, in the order of keys, is what changed
  pub changed-in-order : (exact : (f g : F) → same f g ≡ true → f ≡ g) (alike : (f : F) → same f f ≡ true) (sorted : List (Key × F × Bool))
      → IsDistinct same_key (keys_of (unwrap_or core.changes [])) → IsPermutation (left_items same (image_of core.pile)) sorted
      → IsSortedByKey (λ item. item.0) key_cmp sorted → AreChangedItems core sorted
  changed-in-order exact alike sorted once moved ascends =
      let keys = left_keys same core (unwrap_or core.changes []) in
      let moves : IsPermutation (map (item_of B core) keys) sorted = subst (λ xs. IsPermutation xs sorted) (left-listed (unwrap_or core.changes [])) moved in
      let in_order = map (λ (item : Key × F × Bool). item.0) sorted in
      let keyed : IsPermutation keys in_order =
      subst (λ ks. IsPermutation ks in_order) (keys-of-items B core keys) (IsPermutation-map (λ (item : Key × F × Bool). item.0) (map (item_of B core) keys) sorted moves) in
      are-changed same exact alike B core in_order once keyed sorted (sorted-keys sorted ascends) (moved-keys keys sorted moves)

-- no more are left than noted
passed-few : {X Y : Type 0} (f : X → Option Y) (xs : List X) → length (filter_map f xs) ≤ length xs
passed-few f [] = omega arith
passed-few f (x ∷ xs) = by (f x) (passed-few f xs)
  where
    by : (o : Option _) → length (filter_map f xs) ≤ length xs → length (cons_option o (filter_map f xs)) ≤ length (x ∷ xs)
    by None rest = omega (arith, rest)
    by (Some y) rest = omega (arith, rest)

pub few-left : {F T : Type 0} (same : F → F → Bool) (image : KeyedImageData F T) (sorted : List (Key × F × Bool))
    → IsPermutation (left_items same image) sorted → length sorted ≤ noted_count image.changes
few-left same image sorted moved =
    let long = length_permutation (left_items same image) sorted moved in
    let few = passed-few (left_item same image) (unwrap_or image.changes []) in
    let count = count-notes image.changes in
    omega (arith, long, few, count)
