-- Elements of lists that are put together, by their places.
use Rattle.std.proofs.Common.{◌≡◌, ◌<◌, ℕ, zero, suc, ◌+◌, List, [], ◌∷◌, ◌++◌, Some, ◌⊎◌, inl, inr, map, length, refl, sym, ap, subst, ◌∙◌, zero-add, arith}
use Rattle.std.specs.Prelude.{slice_get}
use Rattle.std.specs.List.{AllByRecursion, Contains}
use Rattle.std.proofs.lemmas.Option.{same_Some, slice_get_cases, slice_get_within, get_or_from_slice_get, slice_get-get_or, some_pair_parts}

module _ {X : Type 0} where
  pub at_left : (xs ys : List X) (n : ℕ) (x : X) → slice_get xs n ≡ Some x → slice_get (xs ++ ys) n ≡ Some x
  at_left [] ys n x e = let none : ⊥ = cc in elim none [ ]
  at_left (z ∷ xs) ys zero x e = e
  at_left (z ∷ xs) ys (suc n) x e = at_left xs ys n x e

  pub at_right : (xs ys : List X) (n : ℕ) → slice_get (xs ++ ys) (length xs + n) ≡ slice_get ys n
  at_right [] ys n = rw zero-add refl
  at_right (z ∷ xs) ys n = let e : suc (length xs) + n ≡ suc (length xs + n) = omega arith in rw e (at_right xs ys n)

  pub at_either : (xs ys : List X) (n : ℕ) (x : X) → slice_get (xs ++ ys) n ≡ Some x → (slice_get xs n ≡ Some x) ⊎ ((k : ℕ) × (n ≡ length xs + k) × (slice_get ys k ≡ Some x))
  at_either [] ys n x e = inr (n, omega arith, e)
  at_either (z ∷ xs) ys zero x e = inl e
  at_either (z ∷ xs) ys (suc n) x e = elim (at_either xs ys n x e) [ inl a ↦ inl a | inr r ↦ inr (r.0, omega (arith, r.1), r.2) ]

  pub at_end : (xs : List X) (x : X) → slice_get (xs ++ x ∷ []) (length xs) ≡ Some x
  at_end [] x = refl
  at_end (z ∷ xs) x = at_end xs x

  pub contains_at : (xs : List X) (n : ℕ) (x : X) → slice_get xs n ≡ Some x → Contains xs x
  contains_at xs n x e = (n, slice_get_within xs n x e, get_or_from_slice_get xs n x x e)

  pub at_contained : (xs : List X) (x : X) → Contains xs x → (n : ℕ) × (slice_get xs n ≡ Some x)
  at_contained xs x c = (c.0, slice_get-get_or xs c.0 x c.1 ∙ ap (λ y. Some y) c.2)

  -- elements that are paired with one number
  pub at_paired : (i j : ℕ) (xs : List X) (n : ℕ) (x : X) → slice_get {X = ℕ × X} (map (λ x. (i, x)) xs) n ≡ Some (j, x) → (j ≡ i) × (slice_get xs n ≡ Some x)
  at_paired i j [] n x e = let none : ⊥ = cc in elim none [ ]
  at_paired i j (z ∷ xs) zero x e = let parts = some_pair_parts i j z x e in (sym parts.0, ap (λ y. Some y) parts.1)
  at_paired i j (z ∷ xs) (suc n) x e = at_paired i j xs n x e

  pub paired_at : (i : ℕ) (xs : List X) (n : ℕ) (x : X) → slice_get xs n ≡ Some x → slice_get {X = ℕ × X} (map (λ x. (i, x)) xs) n ≡ Some (i, x)
  paired_at i [] n x e = let none : ⊥ = cc in elim none [ ]
  paired_at i (z ∷ xs) zero x e = cc
  paired_at i (z ∷ xs) (suc n) x e = paired_at i xs n x e

pub element_of : {X : Type 0} (xs : List X) (i : ℕ) → i < length xs → (x : X) × (slice_get xs i ≡ Some x)
element_of xs i within = elim (slice_get_cases xs i).1 [ inl a ↦ (a.0, a.2) | inr b ↦ absurd (omega (arith, b.0)) ]

-- what holds of each element at its place holds so with one more
module _ {X : Type 0} (P : ℕ → X → Type 0) where
  pushed_at : (n j k : ℕ) (x y : X) → k ≡ n + j → slice_get (x ∷ []) j ≡ Some y → P n x → P k y
  pushed_at n zero k x y at e one =
      let same : x ≡ y = same_Some x y e in
      let here : n ≡ k = omega arith in
      subst (λ z. P k z) same (subst (λ m. P m x) here one)
  pushed_at n (suc j) k x y at e one = let none : ⊥ = cc in elim none [ ]

  pub each_push : (xs : List X) (x : X) (n : ℕ) → length xs ≡ n → ((k : ℕ) (y : X) → slice_get xs k ≡ Some y → P k y) → P n x → (k : ℕ) (y : X) → slice_get (xs ++ x ∷ []) k ≡ Some y → P k y
  each_push xs x n long all one k y e =
      elim (at_either xs (x ∷ []) k y e) [
        | inl old ↦ all k y old
        | inr r ↦ pushed_at n r.0 k x y (omega (arith, r.1, long)) r.2 one
      ]

-- what holds of each element holds of that at an index
pub each_of : {X : Type 0} (P : X → Type 0) (xs : List X) (k : ℕ) (x : X) → AllByRecursion P xs → slice_get xs k ≡ Some x → P x
each_of P [] k x all e = let none : ⊥ = cc in elim none [ ]
each_of P (y ∷ xs) zero x all e = subst P (same_Some y x e) all.0
each_of P (y ∷ xs) (suc k) x all e = each_of P xs k x all.1 e

-- lists of one length whose elements are the same at each place
pub same_elements : {X : Type 0} (xs ys : List X) → length xs ≡ length ys → ((n : ℕ) (x y : X) → slice_get xs n ≡ Some x → slice_get ys n ≡ Some y → x ≡ y) → xs ≡ ys
same_elements [] [] long same = refl
same_elements [] (y ∷ ys) long same = absurd (omega (arith, long))
same_elements (x ∷ xs) [] long same = absurd (omega (arith, long))
same_elements (x ∷ xs) (y ∷ ys) long same =
    let first : x ≡ y = same 0 x y refl refl in
    let rest : xs ≡ ys = same_elements xs ys (omega (arith, long)) (λ n a b at to. same (suc n) a b at to) in
    cc
