-- Finite meets: of the values at the numbers below a count, and of a list.
use Rattle.std.specs.Prelude.{◌≡◌, ℕ, zero, suc, ◌<◌, ◌⊎◌, List, [], ◌∷◌, IsTrue, All, fold, map}
use Rattle.std.proofs.Common.{ap, sym, subst, refl, ◌∙◌, arith, inl, inr}
use Rattle.ide_lattice.specs.Algebra.{LatticeAlgebra, EdgeAlgebra}
use Rattle.ide_lattice.specs.Laws.{IsLattice, IsEdgeAlgebra}
use Rattle.ide_lattice.specs.Order.{IsBelow, IsDistributive, below-trans, below-top, below-meet, meet-below-left, meet-below-right}

-- the meet of `f 0`, `f 1`, .., `f (count - 1)`; top where there is none
abbrev pub meet_of : {L : Type 0} → LatticeAlgebra L → (ℕ → L) → ℕ → L
meet_of A f zero = A.top
meet_of A f (suc n) = A.meet (meet_of A f n) (f n)

-- the meet of a list of functions; always-top where there is none
abbrev pub meet_all : {F L : Type 0} → EdgeAlgebra F L → List F → F
meet_all B fs = fold B.meet B.all_top fs

-- a number below a count is the last one, or below it
pub last-or : (k n : ℕ) → k < suc n → (k < n) ⊎ (k ≡ n)
last-or k n h = grind (arith)

module _ {L : Type 0} (A : LatticeAlgebra L) (laws : IsLattice A) where
  pub proper-meet_of : (f : ℕ → L) (n : ℕ) → ((k : ℕ) → k < n → IsTrue (A.proper (f k))) → IsTrue (A.proper (meet_of A f n))
  proper-meet_of f zero p = laws.proper_top
  proper-meet_of f (suc n) p =
      laws.proper_meet (meet_of A f n) (f n) (proper-meet_of f n (λ k h. p k (omega (arith, h)))) (p n (omega arith))

  -- the meet is below each of the values
  pub meet_of-below : (f : ℕ → L) (n : ℕ) → ((k : ℕ) → k < n → IsTrue (A.proper (f k))) → (k : ℕ) → k < n
      → IsBelow A (meet_of A f n) (f k)
  meet_of-below f zero p k h = let none : ⊥ = omega (arith, h) in elim none [ ]
  meet_of-below f (suc n) p k h =
      let rest : IsTrue (A.proper (meet_of A f n)) = proper-meet_of f n (λ j b. p j (omega (arith, b))) in
      let last : IsTrue (A.proper (f n)) = p n (omega arith) in
      elim (last-or k n h) [
        | inl b ↦ below-trans A laws (A.meet (meet_of A f n) (f n)) (meet_of A f n) (f k)
            (meet-below-left A laws (meet_of A f n) (f n) rest last)
            (meet_of-below f n (λ j c. p j (omega (arith, c))) k b)
        | inr e ↦ subst (λ j. IsBelow A (A.meet (meet_of A f n) (f n)) (f j)) (sym e)
            (meet-below-right A laws (meet_of A f n) (f n) rest last)
      ]

  -- what is below each of the values is below their meet
  pub below-meet_of : (w : L) (f : ℕ → L) (n : ℕ) → IsTrue (A.proper w) → ((k : ℕ) → k < n → IsBelow A w (f k))
      → IsBelow A w (meet_of A f n)
  below-meet_of w f zero p below = below-top A laws w p
  below-meet_of w f (suc n) p below =
      below-meet A laws w (meet_of A f n) (f n) (below-meet_of w f n p (λ k h. below k (omega (arith, h)))) (below n (omega arith))

  -- a distributive map carries a finite meet over
  pub distributive-meet_of : (h : L → L) → IsDistributive A h → (f : ℕ → L) (n : ℕ)
      → ((k : ℕ) → k < n → IsTrue (A.proper (f k))) → h (meet_of A f n) ≡ meet_of A (λ k. h (f k)) n
  distributive-meet_of h good f zero p = good.top
  distributive-meet_of h good f (suc n) p =
      good.carries (meet_of A f n) (f n) (proper-meet_of f n (λ k b. p k (omega (arith, b)))) (p n (omega arith))
      ∙ ap (λ m. A.meet m (h (f n))) (distributive-meet_of h good f n (λ k b. p k (omega (arith, b))))

  -- what is below the map of each of the values is below the map of their meet
  pub below-through : (h : L → L) → IsDistributive A h → (w : L) (f : ℕ → L) (n : ℕ) → IsTrue (A.proper w)
      → ((k : ℕ) → k < n → IsTrue (A.proper (f k))) → ((k : ℕ) → k < n → IsBelow A w (h (f k)))
      → IsBelow A w (h (meet_of A f n))
  below-through h good w f n p each below =
      subst (IsBelow A w) (sym (distributive-meet_of h good f n each)) (below-meet_of w (λ k. h (f k)) n p below)

  module _ {F : Type 0} (B : EdgeAlgebra F L) (functions : IsEdgeAlgebra A B) where
    -- a proper function's map is distributive
    pub distributive-apply : (f : F) → IsTrue (B.proper f) → IsDistributive A (B.apply f)
    distributive-apply f p = record {
      proper = λ x q. functions.proper_apply f x p q;
      carries = λ x y q r. functions.distributive f x y p q r;
      top = functions.apply_top f p;
    }

    -- the value of a meet of functions is the meet of their values
    pub apply-fold : (fs : List F) (g : F) (x : L) → All (λ f. IsTrue (B.proper f)) fs → IsTrue (B.proper g) → IsTrue (A.proper x)
        → fold A.meet (B.apply g x) (map (λ f. B.apply f x) fs) ≡ B.apply (fold B.meet g fs) x
    apply-fold [] g x all p q = refl
    apply-fold (f ∷ fs) g x all p q =
        let first : IsTrue (B.proper f) = all 0 f (omega arith) in
        let rest : All (λ f. IsTrue (B.proper f)) fs = λ k d h. all (suc k) d (omega (arith, h)) in
        ap (λ y. fold A.meet y (map (λ h. B.apply h x) fs)) (sym (functions.apply_meet g f x p first q))
        ∙ apply-fold fs (B.meet g f) x rest (functions.proper_meet g f p first) q

    pub apply-meet_all : (fs : List F) (x : L) → All (λ f. IsTrue (B.proper f)) fs → IsTrue (A.proper x)
        → fold A.meet A.top (map (λ f. B.apply f x) fs) ≡ B.apply (meet_all B fs) x
    apply-meet_all fs x all q =
        ap (λ y. fold A.meet y (map (λ f. B.apply f x) fs)) (sym (functions.apply_all_top x q))
        ∙ apply-fold fs B.all_top x all functions.proper_all_top q
