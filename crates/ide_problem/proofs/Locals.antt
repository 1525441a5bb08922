-- One local after another.
use Rattle.std.proofs.Common.{◌≡◌, ℕ, ◌+◌, ◌-◌, ◌≤◌, List, [], ◌∷◌, ◌++◌, map, ap, ◌∙◌, sym, arith}
use Rattle.std.specs.List.{range_with_len}
use Rattle.std.proofs.lemmas.List.{append_assoc}
use Rattle.std.proofs.lemmas.List.FromFn.{map-range_with_len_more}

pub one_more : {X : Type 0} (f : ℕ → X) (before after all : List X) (first local : ℕ) → first ≤ local
    → after ≡ before ++ map f (range_with_len first (local - first)) → all ≡ after ++ f local ∷ []
    → all ≡ before ++ map f (range_with_len first (local + 1 - first))
one_more f before after all first local h is more =
    let count : local + 1 - first ≡ local - first + 1 = omega (arith, h) in
    more
    ∙ ap (λ xs. xs ++ f local ∷ []) is
    ∙ append_assoc before (map f (range_with_len first (local - first))) (f local ∷ [])
    ∙ ap (λ xs. before ++ xs) (sym (map-range_with_len_more f first (local - first) local (omega (arith, h))))
    ∙ ap (λ n. before ++ map f (range_with_len first n)) (sym count)
