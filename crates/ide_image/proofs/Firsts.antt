-- Where keys stand in a row that others follow.
use Rattle.std.proofs.Common.{◌≡◌, ℕ, zero, suc, ◌++◌, refl, ap, ◌∙◌, arith, List, [], ◌∷◌, true, false, cond}
use Rattle.ide_wire.specs.declared.key.Key.{Key}
use Rattle.ide_wire.specs.Key.{same_key}
use Rattle.ide_image.specs.Tables.{behind, place_in}

module _ {F : Type 0} (key : Key) where
  -- one that stands in the first row stays
  pub place-first : (es xs : List (Key × F)) (n : ℕ) → place_in key es ≡ suc n → place_in key (es ++ xs) ≡ suc n
  place-first [] xs n is = absurd (omega (arith, is))
  place-first (e ∷ es) xs n is =
      elim (same_key key e.0) as (λ b. cond b 1 (behind (place_in key es)) ≡ suc n → cond b 1 (behind (place_in key (es ++ xs))) ≡ suc n) [
        | true ↦ λ one. one
        | false ↦ λ more. behind-some (place_in key es) (λ p. place-first es xs p) more
      ] is
    where
      behind-some : (p : ℕ) → ((k : ℕ) → p ≡ suc k → place_in key (es ++ xs) ≡ suc k) → behind p ≡ suc n → behind (place_in key (es ++ xs)) ≡ suc n
      behind-some zero stays more = absurd (omega (arith, more))
      behind-some (suc p) stays more = ap behind (stays p refl) ∙ more
