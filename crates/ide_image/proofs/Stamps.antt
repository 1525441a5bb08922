-- What a stamp that is set says of each slot.
use Rattle.std.proofs.Common.{◌≡◌, ℕ, zero, suc, ◌<◌, ◌≤◌, refl, sym, ap, ◌∙◌, arith, List, [], ◌∷◌, length, true, false, cond}
use Rattle.std.specs.Prelude.{nat_eq, slice_index, slice_set}
use Rattle.std.proofs.lemmas.Bool.{eq-eqb}
use Rattle.std.proofs.lemmas.Bool.Decides.{nat_tests}

-- none is of a list to come
pub past-set : (stamps : List ℕ) (slot epoch : ℕ) → ((n : ℕ) → slice_index stamps n ≤ epoch) → (n : ℕ) → slice_index (slice_set stamps slot epoch) n ≤ epoch
past-set [] slot epoch past n = past n
past-set (x ∷ xs) zero epoch past zero = omega arith
past-set (x ∷ xs) zero epoch past (suc n) = past (suc n)
past-set (x ∷ xs) (suc k) epoch past zero = past zero
past-set (x ∷ xs) (suc k) epoch past (suc n) = past-set xs k epoch (λ m. past (suc m)) n

-- the slot is of the list now, and each other one is where it was
pub marks-set : (stamps : List ℕ) (slot epoch : ℕ) → slot < length stamps → (n : ℕ)
    → nat_eq (slice_index (slice_set stamps slot epoch) n) epoch ≡ cond (nat_eq slot n) true (nat_eq (slice_index stamps n) epoch)
marks-set [] slot epoch within n = absurd (omega (arith, within))
marks-set (x ∷ xs) zero epoch within zero = eq-eqb epoch epoch refl
marks-set (x ∷ xs) zero epoch within (suc n) =
    let other : nat_eq 0 (suc n) ≡ false = grind (arith, nat_tests) in
    sym (ap (λ b. cond b true (nat_eq (slice_index xs n) epoch)) other)
marks-set (x ∷ xs) (suc k) epoch within zero =
    let other : nat_eq (suc k) 0 ≡ false = grind (arith, nat_tests) in
    sym (ap (λ b. cond b true (nat_eq x epoch)) other)
marks-set (x ∷ xs) (suc k) epoch within (suc n) =
    let same : nat_eq k n ≡ nat_eq (suc k) (suc n) = grind (arith, nat_tests) in
    marks-set xs k epoch (omega (arith, within)) n ∙ ap (λ b. cond b true (nat_eq (slice_index xs n) epoch)) same

pub length-set : (stamps : List ℕ) (slot epoch : ℕ) → length (slice_set stamps slot epoch) ≡ length stamps
length-set [] slot epoch = refl
length-set (x ∷ xs) zero epoch = refl
length-set (x ∷ xs) (suc k) epoch = let rest = length-set xs k epoch in omega (arith, rest)
