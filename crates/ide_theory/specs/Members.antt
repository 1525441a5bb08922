-- What stands in lists that are joined, mapped and ranged over.
use Rattle.std.proofs.Common.{◌≡◌, ℕ, zero, suc, ◌+◌, ◌<◌, ◌≤◌, ◌⊎◌, List, [], ◌∷◌, ◌++◌, length, map, sym, subst, refl, inl, inr, arith}
use Rattle.std.specs.Prelude.{slice_index_or}
use Rattle.std.specs.List.{Contains, flat_map, range_with_len}
use Rattle.ide_theory.specs.Member.{IsIn, first, later}

-- what stands in a list is its first, or stands in the rest
pub first-or : {T : Type 0} {x y : T} {xs : List T} → IsIn x (y ∷ xs) → (x ≡ y) ⊎ IsIn x xs
first-or first = inl refl
first-or (later is) = inr is

pub not-in-empty : {T : Type 0} {x : T} → IsIn x [] → ⊥
not-in-empty is = elim is [ ]

pub in-one : {T : Type 0} {x y : T} → IsIn x (y ∷ []) → x ≡ y
in-one is = elim (first-or is) [
  | inl same ↦ same
  | inr none ↦ elim (not-in-empty none) [ ]
]

module _ {T : Type 0} where
  pub in-left : {x : T} {xs : List T} (ys : List T) → IsIn x xs → IsIn x (xs ++ ys)
  in-left ys first = first
  in-left ys (later is) = later (in-left ys is)

  pub in-right : {x : T} (xs : List T) {ys : List T} → IsIn x ys → IsIn x (xs ++ ys)
  in-right [] is = is
  in-right (y ∷ xs) is = later (in-right xs is)

  pub in-either : {x : T} (xs ys : List T) → IsIn x (xs ++ ys) → IsIn x xs ⊎ IsIn x ys
  in-either [] ys is = inr is
  in-either {x} (y ∷ xs) ys is = elim (first-or is) [
    | inl same ↦ inl (subst (λ u. IsIn u (y ∷ xs)) (sym same) first)
    | inr rest ↦ elim (in-either xs ys rest) [
      | inl left ↦ inl (later left)
      | inr right ↦ inr right
    ]
  ]

module _ {S T : Type 0} where
  pub in-map : (f : S → T) {x : S} {xs : List S} → IsIn x xs → IsIn (f x) (map f xs)
  in-map f first = first
  in-map f (later is) = later (in-map f is)

  pub of-map : (f : S → T) {y : T} (xs : List S) → IsIn y (map f xs) → (x : S) × IsIn x xs × (f x ≡ y)
  of-map f [] is = elim (not-in-empty is) [ ]
  of-map f (x ∷ xs) is = elim (first-or is) [
    | inl same ↦ (x, first, sym same)
    | inr rest ↦ let found : (u : S) × IsIn u xs × (f u ≡ _) = of-map f xs rest in (found.0, later found.1, found.2)
  ]

  pub in-flat_map : (f : S → List T) {x : S} {y : T} {xs : List S} → IsIn x xs → IsIn y (f x) → IsIn y (flat_map f xs)
  in-flat_map f (first {xs = xs}) is = in-left (flat_map f xs) is
  in-flat_map f (later {y = z} there) is = in-right (f z) (in-flat_map f there is)

  pub of-flat_map : (f : S → List T) {y : T} (xs : List S) → IsIn y (flat_map f xs) → (x : S) × IsIn x xs × IsIn y (f x)
  of-flat_map f [] is = elim (not-in-empty is) [ ]
  of-flat_map f {y} (x ∷ xs) is = elim (in-either (f x) (flat_map f xs) is) [
    | inl here ↦ (x, first, here)
    | inr rest ↦ let found : (u : S) × IsIn u xs × IsIn y (f u) = of-flat_map f xs rest in (found.0, later found.1, found.2)
  ]

pub in-range_from : (low n k : ℕ) → low ≤ k → k < low + n → IsIn k (range_with_len low n)
in-range_from low zero k least most = let no : ⊥ = omega (arith, least, most) in elim no [ ]
in-range_from low (suc n) k least most = elim (first-or-past low k least) [
  | inl same ↦ subst (λ u. IsIn u (low ∷ range_with_len (low + 1) n)) same first
  | inr past ↦ later (in-range_from (low + 1) n k past (omega (arith, most)))
]
  where
    first-or-past : (low k : ℕ) → low ≤ k → (low ≡ k) ⊎ (low + 1 ≤ k)
    first-or-past low k least = grind (arith)

pub in-range_below : (n k : ℕ) → k < n → IsIn k (range_with_len 0 n)
in-range_below n k h = in-range_from 0 n k (omega arith) (omega (arith, h))

-- both ways to say that an element stands in a list
pub contains-in : {T : Type 0} {x : T} {xs : List T} → IsIn x xs → Contains xs x
contains-in first = (0, omega arith, refl)
contains-in (later is) = let found : Contains _ _ = contains-in is in (suc found.0, omega (arith, found.1), found.2)

in-at : {T : Type 0} (xs : List T) (x : T) (k : ℕ) → k < length xs → slice_index_or xs k x ≡ x → IsIn x xs
in-at [] x k within same = let none : ⊥ = omega (arith, within) in elim none [ ]
in-at (y ∷ xs) x zero within same = subst (λ z. IsIn z (y ∷ xs)) same first
in-at (y ∷ xs) x (suc k) within same = later (in-at xs x k (omega (arith, within)) same)

pub in-contains : {T : Type 0} (xs : List T) (x : T) → Contains xs x → IsIn x xs
in-contains xs x found = in-at xs x found.0 found.1 found.2
