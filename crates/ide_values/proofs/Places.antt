-- Places in rows: each place of a row is one of its own.
use Rattle.std.proofs.Common.{◌≡◌, ℕ, ◌+◌, ◌*◌, ◌<◌, ◌≤◌, ◌&&◌, ◌⊎◌, true, false, cond, ap, subst, refl, inl, inr, arith}
use Rattle.std.specs.Prelude.{nat_eq}
use Rattle.std.proofs.Math.Nat.{mul-le-mul_right}
use Rattle.std.proofs.lemmas.Bool.Decides.{nat_tests}

-- a place in an earlier row comes before each place of a later row
pub row_before : (m n a b count : ℕ) → a < count → m < n → m * count + a < n * count + b
row_before m n a b count h less =
    let rows : (m + 1) * count ≤ n * count = mul-le-mul_right count (omega (arith, less)) in
    let one : (m + 1) * count ≡ m * count + count = grind (arith) in
    omega (arith, rows, one, h)

-- two places are the same in the same row alone
pub same_row : (m n a b count : ℕ) → a < count → b < count → m * count + a ≡ n * count + b → m ≡ n
same_row m n a b count h k same = elim (ordered m n) [
  | inl equal ↦ equal
  | inr apart ↦ elim apart [
    | inl less ↦ let no : ⊥ = omega (arith, row_before m n a b count h less, same) in elim no [ ]
    | inr more ↦ let no : ⊥ = omega (arith, row_before n m b a count k more, same) in elim no [ ]
  ]
]
  where
    ordered : (m n : ℕ) → (m ≡ n) ⊎ ((m < n) ⊎ (n < m))
    ordered m n = grind (arith)

pub same_place : (m n a b count : ℕ) → a < count → b < count → m * count + a ≡ n * count + b → (m ≡ n) × (a ≡ b)
same_place m n a b count h k same =
    let row : m ≡ n = same_row m n a b count h k same in
    let moved : n * count + a ≡ n * count + b = subst (λ r. r * count + a ≡ n * count + b) row same in
    (row, omega (arith, moved))

-- a place within the rows
pub place_within : (n d nodes count : ℕ) → n < nodes → d < count → n * count + d < nodes * count
place_within n d nodes count h k =
    let rows : (n + 1) * count ≤ nodes * count = mul-le-mul_right count (omega (arith, h)) in
    let one : (n + 1) * count ≡ n * count + count = grind (arith) in
    omega (arith, rows, one, k)

-- what is chosen where two rows and two facts are the same, and where they are not
pub chosen_same : {L : Type 0} (m n b d : ℕ) (x y : L) → m ≡ n → b ≡ d → cond (nat_eq m n && nat_eq b d) x y ≡ x
chosen_same m n b d x y row fact =
    let here : (nat_eq m n && nat_eq b d) ≡ true = grind (arith, nat_tests) in
    ap (λ t. cond t x y) here

pub chosen_apart : {L : Type 0} (m n b d : ℕ) (x y : L) → ((m ≡ n) × (b ≡ d) → ⊥) → cond (nat_eq m n && nat_eq b d) x y ≡ y
chosen_apart m n b d x y apart =
    elim (nat_eq m n) as (λ t. nat_eq m n ≡ t → cond (t && nat_eq b d) x y ≡ y) [
      | true ↦ λ e. elim (nat_eq b d) as (λ u. nat_eq b d ≡ u → cond u x y ≡ y) [
        | true ↦ λ f. absurd (apart (equal m n e, equal b d f))
        | false ↦ λ f. refl
      ] refl
      | false ↦ λ e. refl
    ] refl
  where
    equal : (a b : ℕ) → nat_eq a b ≡ true → a ≡ b
    equal a b e = grind (arith, nat_tests)
