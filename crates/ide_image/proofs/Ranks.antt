-- Numbers of what is left of notes, and its slots with their keys: sorted, they tell it in the order of keys.
use Rattle.std.proofs.Common.{◌≡◌, ℕ, zero, suc, ◌+◌, ◌<◌, ◌≤◌, refl, sym, ap, subst, ◌∙◌, arith, List, [], ◌∷◌, Option, None, Some, Bool, true, false, get_or, length, map}
use Rattle.std.specs.Global.{Vec}
use Rattle.std.specs.Prelude.{IfOk, Result, Ok, Err, slice_get, unwrap_or}
use Rattle.std.specs.List.{All, cons_option, filter_map}
use Rattle.std.specs.List.Sorted.{IsPermutation, IsSorted, IsSortedByKey}
use Rattle.std.specs.Ordering.{is_lt, nat_cmp}
use Rattle.std.proofs.lemmas.Bool.Decides.{nat_tests}
use Rattle.std.proofs.lemmas.List.{get_or-map, length-map}
use Rattle.std.proofs.lemmas.List.Elements.{All-cons, All-head, All-map, All-nil, All-tail, All-weaker}
use Rattle.std.proofs.lemmas.List.Sorted.{All-permutation, IsPermutation-map}
use Rattle.ide_wire.specs.KeyOrder.{key_cmp}
use Rattle.ide_wire.specs.declared.key.Key.{Key}
use Rattle.ide_wire.specs.declared.key.Key.TheVariants.{Jump, Summary}
use Rattle.std.specs.Option.{is_some, option_map}
use Rattle.std.proofs.lemmas.Option.{same_Some}
use Rattle.ide_image.specs.Indexed.{Indexed, function_of, place_of_key}
use Rattle.ide_image.specs.Queue.{SlotMarks, pending_at}
use Rattle.ide_image.proofs.Shown.{entry-at}
use Rattle.ide_image.specs.Ranks.{AreKeyed, AreNumbers, HasRank, HaveItems, HaveTheItems, IsKeyed, IsNumber, item_beside, item_in, item_of, item_told, items_in, key_rank, note_slot}
use Rattle.ide_image.specs.Tables.{place_in}

-- a rank is a number of 48 bits
pub rank-low : (key : Key) → HasRank key → key_rank key < 281474976710656
rank-low (Jump n a b) low = omega (arith, low.0, low.1, low.2)
rank-low (Summary n a b) low = omega (arith, low.0, low.1, low.2)

-- keys that have ranks compare as these do
pub by-rank : (x y : Key) → HasRank x → HasRank y → nat_cmp (key_rank x) (key_rank y) ≡ key_cmp x y
by-rank (Jump n a b) (Jump m c d) low other =
    let x = low.0 in let y = low.1 in let z = low.2 in let u = other.0 in let v = other.1 in let w = other.2 in grind (arith, nat_tests)
by-rank (Jump n a b) (Summary m c d) low other =
    let x = low.0 in let y = low.1 in let z = low.2 in let u = other.0 in let v = other.1 in let w = other.2 in grind (arith, nat_tests)
by-rank (Summary n a b) (Jump m c d) low other =
    let x = low.0 in let y = low.1 in let z = low.2 in let u = other.0 in let v = other.1 in let w = other.2 in grind (arith, nat_tests)
by-rank (Summary n a b) (Summary m c d) low other =
    let x = low.0 in let y = low.1 in let z = low.2 in let u = other.0 in let v = other.1 in let w = other.2 in grind (arith, nat_tests)

not-below : (m n : ℕ) → m ≤ n → is_lt (nat_cmp n m) ≡ false
not-below m n up = grind (arith, nat_tests)

up-from : (m n : ℕ) → is_lt (nat_cmp n m) ≡ false → m ≤ n
up-from m n is = grind (arith, nat_tests)

module _ {F : Type 0} (told : ℕ → Option (Key × F × Bool)) (d : Key × F × Bool) where
  abbrev at : ℕ → Key × F × Bool
  at n = unwrap_or (told n) d

  -- each number tells an item
  each-told : (ns : List ℕ) → All (IsNumber told) ns → filter_map told ns ≡ map at ns
  each-told [] each = refl
  each-told (n ∷ ns) each =
      let one : IsNumber told n = each 0 n (omega arith) in
      ap (λ o. cons_option o (filter_map told ns)) one.is
      ∙ ap (λ xs. one.item ∷ xs) (each-told ns (All-tail (IsNumber told) n ns each))
      ∙ ap (λ o. unwrap_or o d ∷ map at ns) (sym one.is)

  at-is : (n : ℕ) (one : IsNumber told n) → at n ≡ one.item
  at-is n one = ap (λ o. unwrap_or o d) one.is

  -- of numbers that ascend the keys do
  keys-up : (m n : ℕ) → IsNumber told m → IsNumber told n → m ≤ n → is_lt (key_cmp (at n).0 (at m).0) ≡ false
  keys-up m n one next up =
      let ranks : key_rank one.item.0 ≤ key_rank next.item.0 = omega (arith, up, one.rank, next.rank) in
      (λ i. is_lt (key_cmp (at-is n next i).0 (at-is m one i).0))
      ∙ ap is_lt (sym (by-rank next.item.0 one.item.0 next.ranked one.ranked))
      ∙ not-below (key_rank one.item.0) (key_rank next.item.0) ranks

  mapped-up : (ns : List ℕ) → All (IsNumber told) ns → IsSorted nat_cmp ns → IsSortedByKey (λ (item : Key × F × Bool). item.0) key_cmp (map at ns)
  mapped-up ns each ascends k e from less =
      let long = length-map ns at in
      let within : k + 1 < length ns = omega (arith, less, long) in
      let here = get_or-map at ns k 0 e (omega (arith, within)) in
      let next = get_or-map at ns (k + 1) 0 e within in
      let up : get_or ns k 0 ≤ get_or ns (k + 1) 0 = up-from (get_or ns k 0) (get_or ns (k + 1) 0) (ascends k 0 from within) in
      (λ i. is_lt (key_cmp (next i).0 (here i).0))
      ∙ keys-up (get_or ns k 0) (get_or ns (k + 1) 0) (each k 0 (omega (arith, within))) (each (k + 1) 0 within) up

  -- what sorted numbers tell is in the order of keys, and is what they told before
  told-up : (items : List (Key × F × Bool)) (numbers sorted : List ℕ) → AreNumbers told items numbers → IsPermutation numbers sorted → IsSorted nat_cmp sorted
      → IsSortedByKey (λ (item : Key × F × Bool). item.0) key_cmp (filter_map told sorted)
  told-up items numbers sorted are moved ascends =
      let each = All-permutation (IsNumber told) numbers sorted moved are.each in
      subst (IsSortedByKey (λ (item : Key × F × Bool). item.0) key_cmp) (sym (each-told sorted each)) (mapped-up sorted each ascends)

  told-same : (items : List (Key × F × Bool)) (numbers sorted : List ℕ) → AreNumbers told items numbers → IsPermutation numbers sorted
      → IsPermutation items (filter_map told sorted)
  told-same items numbers sorted are moved =
      let each = All-permutation (IsNumber told) numbers sorted moved are.each in
      let before : map at numbers ≡ items = sym (each-told numbers are.each) ∙ are.listed in
      let mapped : IsPermutation (map at numbers) (map at sorted) = IsPermutation-map at numbers sorted moved in
      subst (IsPermutation items) (sym (each-told sorted each)) (subst (λ xs. IsPermutation xs (map at sorted)) before mapped)

-- what stands at an index
pub stands : {X : Type 0} (xs : List X) (i : ℕ) (d : X) → i < length xs → slice_get xs i ≡ Some (get_or xs i d)
stands [] i d within = absurd (omega (arith, within))
stands (x ∷ xs) zero d within = refl
stands (x ∷ xs) (suc i) d within = stands xs i d (omega (arith, within))

-- the item of a slot at which a key stands that has a function
pub item-at : {F : Type 0} (indexed : Indexed F) (marks : SlotMarks) (key : Key) (slot : ℕ) (f : F) (waits : Bool) → place_of_key indexed key ≡ slot + 1
    → function_of indexed.cells key ≡ Some f → waits ≡ pending_at marks.list slot → item_in indexed marks slot ≡ Some (key, f, waits)
item-at indexed marks key slot f waits is has pending =
    let place : place_in key indexed.cells ≡ suc slot = omega (arith, is) in
    ap (option_map (λ (entry : Key × _). (entry.0, entry.1, pending_at marks.list slot)))
    (entry-at key indexed.cells slot place ∙ ap (option_map (λ f. (key, f))) has)
    ∙ (λ i. Some (key, f, sym pending i))

-- what holds of the list that is made of a sorted one holds of the result that has it
pub told-slots : {X Y E : Type 0} (P : List Y → Type 0) (told : List X → List Y) (sorted listed : List X) (result : Result (Vec Y) E) → listed ≡ sorted
    → IfOk result (λ slots. slots.items ≡ told listed) → P (told sorted) → IfOk result (λ slots. P slots.items)
told-slots P told sorted listed (Ok slots) same is holds = subst P (sym (is ∙ ap told same)) holds
told-slots P told sorted listed (Err e) same is holds = tt

module _ {F : Type 0} (indexed : Indexed F) (marks : SlotMarks) where
  -- the items of the slots that the numbers tell are what these tell
  items-told : (slots ns : List ℕ) → items_in indexed marks (filter_map (note_slot slots) ns) ≡ filter_map (item_told indexed marks slots) ns
  items-told slots [] = refl
  items-told slots (n ∷ ns) =
      elim (note_slot slots n) as (λ o. items_in indexed marks (cons_option o (filter_map (note_slot slots) ns))
      ≡ cons_option (item_of indexed marks o) (filter_map (item_told indexed marks slots) ns)) [
        | None ↦ items-told slots ns
        | Some slot ↦ ap (cons_option (item_in indexed marks slot)) (items-told slots ns)
      ]

  -- each of these slots has an item
  have-told : (slots ns : List ℕ) → All (IsNumber (item_told indexed marks slots)) ns → HaveItems indexed marks (filter_map (note_slot slots) ns)
  have-told slots [] each = All-nil (λ slot. is_some (item_in indexed marks slot) ≡ true)
  have-told slots (n ∷ ns) each =
      let one : IsNumber (item_told indexed marks slots) n = All-head (IsNumber (item_told indexed marks slots)) n ns each in
      let rest = have-told slots ns (All-tail (IsNumber (item_told indexed marks slots)) n ns each) in
      elim (note_slot slots n) as (λ o. item_of indexed marks o ≡ Some one.item → HaveItems indexed marks (cons_option o (filter_map (note_slot slots) ns))) [
        | None ↦ λ is. rest
        | Some slot ↦ λ is.
            All-cons (λ slot. is_some (item_in indexed marks slot) ≡ true) slot (filter_map (note_slot slots) ns) (ap is_some is) rest
      ] one.is

  -- the slots that the numbers of items tell, once these are sorted, have the items, in the order of keys
  pub slots-same : (d : Key × F × Bool) (slots : List ℕ) (items : List (Key × F × Bool)) (numbers sorted : List ℕ)
      → AreNumbers (item_told indexed marks slots) items numbers → IsPermutation numbers sorted
      → HaveTheItems indexed marks items (filter_map (note_slot slots) sorted)
  slots-same d slots items numbers sorted are moved = record {
    have = have-told slots sorted (All-permutation (IsNumber (item_told indexed marks slots)) numbers sorted moved are.each);
    same = subst (IsPermutation items) (sym (items-told slots sorted)) (told-same (item_told indexed marks slots) d items numbers sorted are moved);
  }

  pub slots-up : (d : Key × F × Bool) (slots : List ℕ) (items : List (Key × F × Bool)) (numbers sorted : List ℕ)
      → AreNumbers (item_told indexed marks slots) items numbers → IsPermutation numbers sorted → IsSorted nat_cmp sorted
      → IsSortedByKey (λ (item : Key × F × Bool). item.0) key_cmp (items_in indexed marks (filter_map (note_slot slots) sorted))
  slots-up d slots items numbers sorted are moved ascends =
      subst (IsSortedByKey (λ (item : Key × F × Bool). item.0) key_cmp) (sym (items-told slots sorted))
      (told-up (item_told indexed marks slots) d items numbers sorted are moved ascends)

  -- the item of a slot that is listed with its key
  beside : (d : Key × F × Bool) (keyed : Key × ℕ) → IsKeyed indexed marks keyed
      → (item_beside indexed marks keyed ≡ Some (unwrap_or (item_beside indexed marks keyed) d)) × ((unwrap_or (item_beside indexed marks keyed) d).0 ≡ keyed.0)
  beside d keyed is = from (item_beside indexed marks keyed) is
    where
      from : (o : Option (Key × F × Bool)) → option_map (λ item. item.0) o ≡ Some keyed.0 → (o ≡ Some (unwrap_or o d)) × ((unwrap_or o d).0 ≡ keyed.0)
      from None is = absurd (cc (is))
      from (Some item) is = (refl, same_Some item.0 keyed.0 is)

  module _ (d : Key × F × Bool) where
    -- that item: d, if there were none
    abbrev at-slot : Key × ℕ → Key × F × Bool
    at-slot keyed = unwrap_or (item_beside indexed marks keyed) d

    each-beside : (keyed : List (Key × ℕ)) → All (IsKeyed indexed marks) keyed → filter_map (item_beside indexed marks) keyed ≡ map at-slot keyed
    each-beside [] each = refl
    each-beside (k ∷ ks) each =
        ap (λ o. cons_option o (filter_map (item_beside indexed marks) ks)) (beside d k (All-head (IsKeyed indexed marks) k ks each)).0
        ∙ ap (λ xs. at-slot k ∷ xs) (each-beside ks (All-tail (IsKeyed indexed marks) k ks each))

    -- the items of the slots without their keys
    without-keys : (keyed : List (Key × ℕ)) → items_in indexed marks (map (λ k. k.1) keyed) ≡ filter_map (item_beside indexed marks) keyed
    without-keys [] = refl
    without-keys (k ∷ ks) = ap (cons_option (item_beside indexed marks k)) (without-keys ks)

    -- each of these slots has an item
    have-beside : (keyed : List (Key × ℕ)) → All (IsKeyed indexed marks) keyed → HaveItems indexed marks (map (λ k. k.1) keyed)
    have-beside keyed each =
        All-map (λ slot. is_some (item_in indexed marks slot) ≡ true) (λ k. k.1) keyed
        (All-weaker (IsKeyed indexed marks) (λ k. is_some (item_beside indexed marks k) ≡ true) (λ k is. ap is_some (beside d k is).0) keyed each)

    -- slots that are listed with the keys of items, once they are sorted by these, have the items, in the order of keys
    pub keyed-same : (items : List (Key × F × Bool)) (keyed sorted : List (Key × ℕ)) → AreKeyed indexed marks items keyed → IsPermutation keyed sorted
        → HaveTheItems indexed marks items (map (λ k. k.1) sorted)
    keyed-same items keyed sorted are moved =
        let each = All-permutation (IsKeyed indexed marks) keyed sorted moved are.each in
        let before : map at-slot keyed ≡ items = sym (each-beside keyed are.each) ∙ are.listed in
        let mapped : IsPermutation (map at-slot keyed) (map at-slot sorted) = IsPermutation-map at-slot keyed sorted moved in
        record {
          have = have-beside sorted each;
          same = subst (IsPermutation items) (sym (without-keys sorted ∙ each-beside sorted each)) (subst (λ xs. IsPermutation xs (map at-slot sorted)) before mapped);
        }

    -- their items ascend where the keys do
    mapped-keys : (ks : List (Key × ℕ)) → All (IsKeyed indexed marks) ks → IsSortedByKey (λ (k : Key × ℕ). k.0) key_cmp ks
        → IsSortedByKey (λ (item : Key × F × Bool). item.0) key_cmp (map at-slot ks)
    mapped-keys ks each ascends k e from less =
        let long = length-map ks at-slot in
        let within : k + 1 < length ks = omega (arith, less, long) in
        let none : Key × ℕ = (e.0, 0) in
        let here = get_or-map at-slot ks k none e (omega (arith, within)) in
        let next = get_or-map at-slot ks (k + 1) none e within in
        let one = (beside d (get_or ks k none) (each k none (omega (arith, within)))).1 in
        let two = (beside d (get_or ks (k + 1) none) (each (k + 1) none within)).1 in
        (λ i. is_lt (key_cmp (next i).0 (here i).0))
        ∙ (λ i. is_lt (key_cmp (two i) (one i)))
        ∙ ascends k none from within

    pub keyed-up : (items : List (Key × F × Bool)) (keyed sorted : List (Key × ℕ)) → AreKeyed indexed marks items keyed → IsPermutation keyed sorted
        → IsSortedByKey (λ (k : Key × ℕ). k.0) key_cmp sorted
        → IsSortedByKey (λ (item : Key × F × Bool). item.0) key_cmp (items_in indexed marks (map (λ k. k.1) sorted))
    keyed-up items keyed sorted are moved ascends =
        let each = All-permutation (IsKeyed indexed marks) keyed sorted moved are.each in
        subst (IsSortedByKey (λ (item : Key × F × Bool). item.0) key_cmp) (sym (without-keys sorted ∙ each-beside sorted each)) (mapped-keys sorted each ascends)
