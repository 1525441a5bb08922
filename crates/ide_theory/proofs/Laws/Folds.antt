-- Finite meets and distributive maps, where neither edges nor tables matter.
use Rattle.std.proofs.Common.{◌≡◌, ℕ, zero, suc, ◌<◌, ◌⊎◌, ap, ap₂, sym, subst, refl, ◌∙◌, inl, inr, arith}
use Rattle.ide_lattice.specs.Algebra.{LatticeAlgebra}
use Rattle.ide_lattice.specs.Laws.{IsLattice}
use Rattle.ide_lattice.specs.Order.{IsDistributive}
use Rattle.ide_lattice.specs.Meets.{meet_of, last-or}

-- where each number below a bound has one thing or else a second holds, all have the first or the second holds
pub all-or : (A : ℕ → Type 0) (B : Type 0) (n : ℕ) → ((k : ℕ) → k < n → A k ⊎ B) → ((k : ℕ) → k < n → A k) ⊎ B
all-or A B zero each = inl (λ k h. let no : ⊥ = omega (arith, h) in elim no [ ])
all-or A B (suc n) each =
    elim (all-or A B n (λ k h. each k (omega (arith, h)))) [
      | inr b ↦ inr b
      | inl below ↦ elim (each n (omega arith)) [
        | inr b ↦ inr b
        | inl last ↦ inl (λ k h. elim (last-or k n h) [
          | inl h ↦ below k h
          | inr same ↦ subst A (sym same) last
        ])
      ]
    ]

module _ {L : Type 0} (A : LatticeAlgebra L) where
  -- the meet of tops is top
  pub meet_of-top : IsLattice A → (f : ℕ → L) (n : ℕ) → ((k : ℕ) → k < n → f k ≡ A.top) → meet_of A f n ≡ A.top
  meet_of-top laws f zero each = refl
  meet_of-top laws f (suc n) each =
      ap₂ A.meet (meet_of-top laws f n (λ k h. each k (omega (arith, h)))) (each n (omega arith))
      ∙ laws.idempotent A.top laws.proper_top

  -- one distributive map after another is distributive
  pub distributive-then : (g h : L → L) → IsDistributive A g → IsDistributive A h → IsDistributive A (λ x. h (g x))
  distributive-then g h first second = record {
    proper = λ x p. second.proper (g x) (first.proper x p);
    carries = λ x y p q. ap h (first.carries x y p q) ∙ second.carries (g x) (g y) (first.proper x p) (first.proper y q);
    top = ap h first.top ∙ second.top;
  }

  pub distributive-id : IsDistributive A (λ x. x)
  distributive-id = record { proper = λ x p. p; carries = λ x y p q. refl; top = refl }
