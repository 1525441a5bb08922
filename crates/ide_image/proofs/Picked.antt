-- Items taken from a list that ascend by key: as many as it has are that list in the order of keys.
use Rattle.std.proofs.Common.{◌≡◌, ℕ, zero, suc, ◌+◌, ◌<◌, refl, sym, ap, subst, ◌∙◌, arith, false, List, [], ◌∷◌, get_or, length, map}
use Rattle.std.specs.List.{All, AllByRecursion, Contains, remove}
use Rattle.std.specs.List.Sorted.{IsPermutation, IsSortedByKey, IsStrictlySortedBy}
use Rattle.std.specs.Ordering.{is_lt, ordering_reverse}
use Rattle.std.specs.declared.cmp.Ordering.TheVariants.{Less, Greater}
use Rattle.std.proofs.lemmas.List.{get_or-map, length-map}
use Rattle.std.proofs.lemmas.List.Edits.{length-remove}
use Rattle.std.proofs.lemmas.List.Elements.{All-from_recursion, All-head, All-tail}
use Rattle.std.proofs.lemmas.List.Sorted.{Contains-permutation, IsPermutation-cons, IsPermutation-refl, IsPermutation-remove, IsPermutation-trans}
use Rattle.std.proofs.lemmas.Map.Keys.{Less-from_sorted, sorted_head, sorted_tail}
use Rattle.ide_wire.specs.KeyOrder.{key_cmp, key_cmp_total}
use Rattle.ide_wire.specs.declared.key.Key.{Key}

-- no key is below itself
not-below-itself : (k : Key) → key_cmp k k ≡ Less → ⊥
not-below-itself k less =
    let turned : Less ≡ Greater = sym less ∙ key_cmp_total.antisymm k k ∙ ap ordering_reverse less in
    absurd (cc (turned))

-- what is above is not below
not-under : (j k : Key) → key_cmp j k ≡ Less → is_lt (key_cmp k j) ≡ false
not-under j k less = ap is_lt (key_cmp_total.antisymm k j ∙ ap ordering_reverse less)

-- an element that is not the first is among those behind it
among-others : {X : Type 0} (x z : X) (us : List X) (k : ℕ) → k < length (x ∷ us) → get_or (x ∷ us) k z ≡ z → (x ≡ z → ⊥) → Contains us z
among-others x z us zero within is other = absurd (other is)
among-others x z us (suc k) within is other = (k, omega (arith, within), is)

none-left : {X : Type 0} (xs : List X) → 0 ≡ length xs → xs ≡ []
none-left [] none = refl
none-left (x ∷ xs) none = absurd (omega (arith, none))

module _ {X : Type 0} (key : X → Key) where
  -- an element whose key is below another's is another element
  others : (y : X) (ys : List X) → AllByRecursion (λ k. key_cmp (key y) k ≡ Less) (map key ys) → AllByRecursion (λ z. y ≡ z → ⊥) ys
  others y [] above = tt
  others y (z ∷ ys) above = ((λ same. not-below-itself (key y) (ap (λ e. key_cmp (key y) (key e)) same ∙ above.0)), others y ys above.1)

  -- elements of a list, as many as it has, that ascend by key are that list in another order
  pub picked : (xs ys : List X) → All (Contains xs) ys → IsStrictlySortedBy key_cmp (map key ys) → length ys ≡ length xs → IsPermutation xs ys
  picked xs [] each ascends long = subst (λ (us : List X). IsPermutation us []) (sym (none-left xs long)) (IsPermutation-refl [])
  picked xs (y ∷ ys) each ascends long =
      let here : Contains xs y = All-head (Contains xs) y ys each in
      let i = here.0 in
      let taken : IsPermutation xs (y ∷ remove xs i) = IsPermutation-remove xs i y here.1 (sym here.2) in
      let apart = All-from_recursion (λ z. y ≡ z → ⊥) ys (others y ys (sorted_head key_cmp (key y) (map key ys) ascends)) in
      let rest : All (Contains (remove xs i)) ys = λ k d within.
      let z = get_or ys k d in
      let there : Contains (y ∷ remove xs i) z = Contains-permutation xs (y ∷ remove xs i) z taken (All-tail (Contains xs) y ys each k d within) in
      among-others y z (remove xs i) there.0 there.1 there.2 (apart k d within) in
      let less = length-remove xs i here.1 in
      let fits : length ys ≡ length (remove xs i) = omega (arith, less, long) in
      IsPermutation-trans xs (y ∷ remove xs i) (y ∷ ys) taken
      (IsPermutation-cons y (remove xs i) ys (picked (remove xs i) ys rest (sorted_tail key_cmp (key y) (map key ys) ascends) fits))

  -- and they are sorted
  pub picked-up : (ys : List X) → IsStrictlySortedBy key_cmp (map key ys) → IsSortedByKey key key_cmp ys
  picked-up ys ascends k d from within =
      let long = length-map ys key in
      let here = get_or-map key ys k d (key d) (omega (arith, within)) in
      let next = get_or-map key ys (k + 1) d (key d) within in
      let less = Less-from_sorted key_cmp (map key ys) k (k + 1) (key d) ascends (omega arith) (omega (arith, within, long)) in
      not-under (key (get_or ys k d)) (key (get_or ys (k + 1) d)) ((λ t. key_cmp (sym here t) (sym next t)) ∙ less)
