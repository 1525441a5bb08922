-- Two lists whose elements match, one by one.
use Rattle.std.proofs.Common.{◌≡◌, ℕ, zero, suc, ◌+◌, ◌<◌, List, [], ◌∷◌, ◌++◌, get_or, take, length, refl, sym, ap, subst, ◌∙◌, arith}
use Rattle.std.specs.List.{AllZip}
use Rattle.std.proofs.lemmas.List.{take_more}

module _ {A B : Type 0} (R : A → B → Type 0) where
  pub zip_at : (xs : List A) (ys : List B) (i : ℕ) (d : A) (e : B) → AllZip R xs ys → i < length xs → R (get_or xs i d) (get_or ys i e)
  zip_at [] ys i d e zipped within = absurd (omega arith)
  zip_at (x ∷ xs) [] i d e zipped within = absurd zipped
  zip_at (x ∷ xs) (y ∷ ys) zero d e zipped within = zipped.0
  zip_at (x ∷ xs) (y ∷ ys) (suc i) d e zipped within = zip_at xs ys i d e zipped.1 (omega arith)

  pub zip_length : (xs : List A) (ys : List B) → AllZip R xs ys → length xs ≡ length ys
  zip_length [] [] zipped = refl
  zip_length [] (y ∷ ys) zipped = absurd zipped
  zip_length (x ∷ xs) [] zipped = absurd zipped
  zip_length (x ∷ xs) (y ∷ ys) zipped = ap suc (zip_length xs ys zipped.1)

  zip_push : (xs : List A) (ys : List B) (x : A) (y : B) → AllZip R xs ys → R x y → AllZip R (xs ++ x ∷ []) (ys ++ y ∷ [])
  zip_push [] [] x y zipped one = (one, tt)
  zip_push [] (b ∷ ys) x y zipped one = absurd zipped
  zip_push (a ∷ xs) [] x y zipped one = absurd zipped
  zip_push (a ∷ xs) (b ∷ ys) x y zipped one = (zipped.0, zip_push xs ys x y zipped.1 one)

  pub zip_more : (xs : List A) (ys : List B) (i : ℕ) (x : A) (y : B) → i < length xs → x ≡ get_or xs i x → AllZip R (take i xs) ys → R x y → AllZip R (take (i + 1) xs) (ys ++ y ∷ [])
  zip_more xs ys i x y within at zipped one =
      let more : take (i + 1) xs ≡ take i xs ++ x ∷ [] = take_more xs i x within ∙ ap (λ z. take i xs ++ z ∷ []) (sym at) in
      subst (λ zs. AllZip R zs (ys ++ y ∷ [])) (sym more) (zip_push (take i xs) ys x y zipped one)
