-- Where entries stand, and where they stand once one is put in.
use Rattle.std.proofs.Common.{◌≡◌, ℕ, zero, suc, ◌+◌, ◌≤◌, sym, ap, subst, ◌∙◌, arith, List, [], ◌∷◌, length, Option, None, Some, Bool, true, false, cond}
use Rattle.std.specs.Prelude.{IfSome, slice_get}
use Rattle.std.specs.List.{AllByRecursion, IsDistinct}
use Rattle.std.specs.Map.{keys_of}
use Rattle.std.proofs.lemmas.Option.{same_Some}
use Rattle.std.proofs.lemmas.Map.Keys.{IsDistinct-head, IsDistinct-tail}
use Rattle.ide_wire.specs.declared.key.Key.{Key}
use Rattle.ide_wire.specs.Key.{same_key, same_key_refl, same_key_symm}
use Rattle.ide_image.specs.Tables.{behind, place_in}

behind-few : (p count : ℕ) → p ≤ count → behind p ≤ suc count
behind-few zero count few = omega arith
behind-few (suc p) count few = omega (arith, few)

no-more : (b : Bool) → cond b 0 1 ≤ 1
no-more true = omega arith
no-more false = omega arith

module _ {F : Type 0} where
  -- no key stands behind the last entry
  pub place-few : (key : Key) (es : List (Key × F)) → place_in key es ≤ length es
  place-few key [] = omega arith
  place-few key (e ∷ es) =
      elim (same_key key e.0) as (λ b. cond b 1 (behind (place_in key es)) ≤ suc (length es)) [
        | true ↦ omega arith
        | false ↦ behind-few (place_in key es) (length es) (place-few key es)
      ]

  -- what holds of each key holds of that of an entry
  key-in : (P : Key → Type 0) (es : List (Key × F)) (i : ℕ) (e : Key × F) → AllByRecursion P (keys_of es) → slice_get es i ≡ Some e → P e.0
  key-in P [] i e all is = absurd (cc (is))
  key-in P (x ∷ es) zero e all is = subst (λ (y : Key × F). P y.0) (same_Some x e is) all.0
  key-in P (x ∷ es) (suc i) e all is = key-in P es i e all.1 is

  stands-in : (es : List (Key × F)) (i : ℕ) (e : Key × F) → IsDistinct same_key (keys_of es) → slice_get es i ≡ Some e → place_in e.0 es ≡ i + 1
  stands-in [] i e apart is = absurd (cc (is))
  stands-in (x ∷ es) zero e apart is =
      ap (λ b. cond b 1 (behind (place_in e.0 es))) (ap (λ (y : Key × F). same_key y.0 x.0) (sym (same_Some x e is)) ∙ same_key_refl x.0)
  stands-in (x ∷ es) (suc i) e apart is =
      let other : same_key x.0 e.0 ≡ false = key-in (λ y. same_key x.0 y ≡ false) es i e (IsDistinct-head same_key x.0 (keys_of es) apart) is in
      let rest = stands-in es i e (IsDistinct-tail same_key x.0 (keys_of es) apart) is in
      let next : i + 1 ≡ suc i = omega arith in
      let last : suc (suc i) ≡ suc i + 1 = omega arith in
      ap (λ b. cond b 1 (behind (place_in e.0 es))) (same_key_symm e.0 x.0 ∙ other) ∙ ap behind (rest ∙ next) ∙ last

  -- an entry stands at the place of its key
  pub place-at : (es : List (Key × F)) (i : ℕ) (o : Option (Key × F)) → o ≡ slice_get es i → IsDistinct same_key (keys_of es)
      → IfSome o (λ e. place_in e.0 es ≡ i + 1)
  place-at es i None is apart = tt
  place-at es i (Some e) is apart = stands-in es i e apart (sym is)
