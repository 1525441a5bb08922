-- Lists that are the same by a test of their items are equal, where the test is equality.
use Rattle.std.specs.Prelude.{◌≡◌, Bool, true, false, ◌&&◌, [], ◌∷◌}
use Rattle.std.specs.Cmp.Lexicographic.{pointwise}
use Rattle.std.proofs.Common.{refl}

-- things are equal where the test says so
abbrev pub IsExact : {T : Type 0} → (T → T → Bool) → Type 0
IsExact {T = T} same = (x y : T) → same x y ≡ true → x ≡ y

pub lists_exact : {T : Type 0} (same : T → T → Bool) → IsExact same → IsExact (pointwise same)
lists_exact same exact [] [] h = refl
lists_exact same exact [] (y ∷ ys) h = cc (h)
lists_exact same exact (x ∷ xs) [] h = cc (h)
lists_exact same exact (x ∷ xs) (y ∷ ys) h =
    elim (same x y) as (λ b. same x y ≡ b → (b && pointwise same xs ys) ≡ true → (x ∷ xs) ≡ (y ∷ ys)) [
      | true ↦ λ first rest.
          let head : x ≡ y = exact x y first in
          let tail : xs ≡ ys = lists_exact same exact xs ys rest in
          cc
      | false ↦ λ first rest. cc (rest)
    ] refl h
