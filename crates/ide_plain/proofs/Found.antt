-- Reading a list of targets from the front.
use Rattle.std.specs.Prelude.{◌≡◌, ℕ, zero, suc, ◌+◌, ◌<◌, ◌≤◌, List, [], ◌∷◌, cond, ◌++◌, drop, length, map, nat_eq, slice_index_or}
use Rattle.std.specs.List.{range_with_len}
use Rattle.std.proofs.lemmas.List.FromFn.{map-range_with_len_more}
use Rattle.std.proofs.Common.{refl, ap, arith, sym, subst, ◌∙◌}
use Rattle.std.proofs.lemmas.List.{drop_all}
use native.Mathlib.Numerals.{unary_clauses}
use Rattle.ide_lattice.specs.Algebra.{EdgeAlgebra}
use Rattle.ide_problem.specs.Flow.{function_to}

module _ {F L : Type 0} (B : EdgeAlgebra F L) (fact : ℕ) where
  pub function_from : (targets : List (ℕ × F)) (i : ℕ) (t : ℕ × F) → i < length targets → t ≡ slice_index_or targets i t
      → function_to B fact (drop i targets) ≡ cond (nat_eq t.0 fact) t.1 (function_to B fact (drop (suc i) targets))
  function_from [] i t within at = let none : ⊥ = omega (arith, within) in elim none [ ]
  function_from (x ∷ xs) zero t within at = subst (λ y. function_to B fact (x ∷ xs) ≡ cond (nat_eq y.0 fact) y.1 (function_to B fact xs)) (sym at) refl
  function_from (x ∷ xs) (suc i) t within at = function_from xs i t (omega (arith, within)) at

  -- the next target has the function, or those after it
  pub function_next : (targets : List (ℕ × F)) (i : ℕ) (t : ℕ × F) → i < length targets → t ≡ slice_index_or targets i t
      → function_to B fact (drop i targets) ≡ cond (nat_eq t.0 fact) t.1 (function_to B fact (drop (i + 1) targets))
  function_next targets i t within at = simp unary_clauses (function_from targets i t within at)

  -- past the end there is none
  pub function_past : (targets : List (ℕ × F)) (i : ℕ) → length targets ≤ i → function_to B fact (drop i targets) ≡ B.all_top
  function_past targets i past = ap (function_to B fact) (drop_all i targets past)

-- one more value in a list of the values at 0, 1 and on
pub values_more : {X : Type 0} (f : ℕ → X) (n : ℕ) (xs ys : List X) (x : X) → xs ≡ map f (range_with_len 0 n) → x ≡ f n → ys ≡ xs ++ x ∷ []
    → ys ≡ map f (range_with_len 0 (n + 1))
values_more f n xs ys x known here more =
    more ∙ ap (λ zs. zs ++ x ∷ []) known ∙ ap (λ z. map f (range_with_len 0 n) ++ z ∷ []) here ∙ sym (map-range_with_len_more f 0 n n (omega arith))
