-- Items ascend where each key is below the next one.
use Rattle.std.specs.Prelude.{◌≡◌, ℕ, zero, suc, ◌+◌, ◌-◌, ◌≤◌, ◌<◌, true, false, List, [], ◌∷◌, length, map, get_or, nat_lt}
use Rattle.std.specs.List.Sorted.{IsStrictlySortedBy}
use Rattle.std.specs.declared.cmp.Ordering.TheVariants.{Less}
use Rattle.std.proofs.Common.{ap, sym, refl, ◌∙◌, arith}
use Rattle.std.proofs.lemmas.Bool.Decides.{nat_tests}
use Rattle.std.proofs.lemmas.List.{length-map}
use Rattle.std.proofs.lemmas.Map.Keys.{sorted_from_all_adjacent, Less-from_sorted}
use Rattle.ide_wire.specs.KeyOrder.{key_cmp, key_cmp_total}
use Rattle.ide_wire.specs.declared.key.Key.{Key}
use Rattle.ide_wire.specs.declared.key.Key.TheVariants.{Jump}
use Rattle.ide_batch.specs.Items.{Item}

module _ {F : Type 0} where
  abbrev pub keys_in : List (Item F) → List Key
  keys_in items = map (λ item. item.0) items

  pub at_key : (items : List (Item F)) (k : ℕ) (key : Key) (item : Item F) → k < length items → get_or (keys_in items) k key ≡ (get_or items k item).0
  at_key [] k key item within = absurd (omega (arith, within))
  at_key (x ∷ items) zero key item within = refl
  at_key (x ∷ items) (suc k) key item within = at_key items k key item (omega (arith, within))

  -- each of the first keys is below the next one
  abbrev pub Adjacent : List (Item F) → ℕ → Type 0
  Adjacent items n = (k : ℕ) → k + 1 < n → key_cmp (get_or (keys_in items) k (Jump 0 0 0)) (get_or (keys_in items) (k + 1) (Jump 0 0 0)) ≡ Less

  pub adjacent_more : (items : List (Item F)) (n : ℕ) (x y : Item F) → 1 ≤ n → n < length items
      → x ≡ get_or items (n - 1) x → y ≡ get_or items n y → key_cmp x.0 y.0 ≡ Less → Adjacent items n → Adjacent items (n + 1)
  adjacent_more items n x y some within is_x is_y less below k more =
      elim (nat_lt (k + 1) n) as (λ b. nat_lt (k + 1) n ≡ b → key_cmp (get_or (keys_in items) k (Jump 0 0 0)) (get_or (keys_in items) (k + 1) (Jump 0 0 0)) ≡ Less) [
        | true ↦ λ before. below k (grind (arith, nat_tests, before))
        | false ↦ λ last.
            let here : k ≡ n - 1 = grind (arith, nat_tests, last) in
            let next : k + 1 ≡ n = omega (arith, here, some) in
            let first : get_or (keys_in items) k (Jump 0 0 0) ≡ x.0 =
            at_key items k (Jump 0 0 0) x (omega (arith, next, within)) ∙ ap (λ (i : Item F). i.0) (ap (λ j. get_or items j x) here ∙ sym is_x) in
            let second : get_or (keys_in items) (k + 1) (Jump 0 0 0) ≡ y.0 =
            at_key items (k + 1) (Jump 0 0 0) y (omega (arith, next, within)) ∙ ap (λ (i : Item F). i.0) (ap (λ j. get_or items j y) next ∙ sym is_y) in
            rw (first, second) less
      ] refl

  pub ascending : (items : List (Item F)) (n : ℕ) → length items ≤ n → Adjacent items n → IsStrictlySortedBy key_cmp (keys_in items)
  ascending items n all below =
      sorted_from_all_adjacent key_cmp_total (keys_in items) (Jump 0 0 0)
      (λ k within. let long : length (keys_in items) ≡ length items = length-map items (λ item. item.0) in below k (omega (arith, long, within, all)))

  pub not_ascending : (items : List (Item F)) (n : ℕ) (x y : Item F) → 1 ≤ n → n < length items
      → x ≡ get_or items (n - 1) x → y ≡ get_or items n y → ¬ (key_cmp x.0 y.0 ≡ Less) → ¬ (IsStrictlySortedBy key_cmp (keys_in items))
  not_ascending items n x y some within is_x is_y not_less sorted =
      let long : length (keys_in items) ≡ length items = length-map items (λ item. item.0) in
      let first : get_or (keys_in items) (n - 1) (Jump 0 0 0) ≡ x.0 = at_key items (n - 1) (Jump 0 0 0) x (omega (arith, within)) ∙ ap (λ (i : Item F). i.0) (sym is_x) in
      let second : get_or (keys_in items) n (Jump 0 0 0) ≡ y.0 = at_key items n (Jump 0 0 0) y within ∙ ap (λ (i : Item F). i.0) (sym is_y) in
      let less = Less-from_sorted key_cmp (keys_in items) (n - 1) n (Jump 0 0 0) sorted (omega (arith, some)) (omega (arith, long, within)) in
      not_less (rw (first, second) at less)
