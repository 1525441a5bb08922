-- The order of a lattice, and the maps that carry it over.
use Rattle.std.specs.Prelude.{◌≡◌, IsTrue}
use Rattle.std.proofs.Common.{ap, sym, ◌∙◌}
use Rattle.ide_lattice.specs.Algebra.{LatticeAlgebra}
use Rattle.ide_lattice.specs.Laws.{IsLattice}

-- `a` is below `b`: both are proper, and their meet is `a`
pub record IsBelow {L : Type 0} (A : LatticeAlgebra L) (a b : L) : Type 0 where
  pub left : IsTrue (A.proper a)
  pub right : IsTrue (A.proper b)
  pub below : A.meet a b ≡ a

-- a map keeps proper values, carries meets over, and maps top to top
pub record IsDistributive {L : Type 0} (A : LatticeAlgebra L) (h : L → L) : Type 0 where
  pub proper : (x : L) → IsTrue (A.proper x) → IsTrue (A.proper (h x))
  pub carries : (x y : L) → IsTrue (A.proper x) → IsTrue (A.proper y) → h (A.meet x y) ≡ A.meet (h x) (h y)
  pub top : h A.top ≡ A.top

module _ {L : Type 0} (A : LatticeAlgebra L) (laws : IsLattice A) where
  pub below-refl : (a : L) → IsTrue (A.proper a) → IsBelow A a a
  below-refl a p = record { left = p; right = p; below = laws.idempotent a p }

  pub below-trans : (a b c : L) → IsBelow A a b → IsBelow A b c → IsBelow A a c
  below-trans a b c ab bc = record {
    left = ab.left;
    right = bc.right;
    below =
        ap (λ w. A.meet w c) (sym ab.below)
        ∙ laws.associative a b c ab.left ab.right bc.right
        ∙ ap (A.meet a) bc.below
        ∙ ab.below;
  }

  pub below-antisym : (a b : L) → IsBelow A a b → IsBelow A b a → a ≡ b
  below-antisym a b ab ba = sym ab.below ∙ laws.commutative a b ab.left ab.right ∙ ba.below

  pub below-top : (a : L) → IsTrue (A.proper a) → IsBelow A a A.top
  below-top a p = record {
    left = p;
    right = laws.proper_top;
    below = laws.commutative a A.top p laws.proper_top ∙ laws.top_meet a p;
  }

  -- what top is below is top
  pub top-below : (a : L) → IsBelow A A.top a → a ≡ A.top
  top-below a h = sym (laws.top_meet a h.right) ∙ h.below

  pub bottom-below : (a : L) → IsTrue (A.proper a) → IsBelow A A.bottom a
  bottom-below a p = record { left = laws.proper_bottom; right = p; below = laws.bottom_meet a p }

  pub meet-below-left : (a b : L) → IsTrue (A.proper a) → IsTrue (A.proper b) → IsBelow A (A.meet a b) a
  meet-below-left a b p q = record {
    left = laws.proper_meet a b p q;
    right = p;
    below =
        laws.commutative (A.meet a b) a (laws.proper_meet a b p q) p
        ∙ sym (laws.associative a a b p p q)
        ∙ ap (λ w. A.meet w b) (laws.idempotent a p);
  }

  pub meet-below-right : (a b : L) → IsTrue (A.proper a) → IsTrue (A.proper b) → IsBelow A (A.meet a b) b
  meet-below-right a b p q = record {
    left = laws.proper_meet a b p q;
    right = q;
    below = laws.associative a b b p q q ∙ ap (A.meet a) (laws.idempotent b q);
  }

  -- what is below both is below their meet
  pub below-meet : (w a b : L) → IsBelow A w a → IsBelow A w b → IsBelow A w (A.meet a b)
  below-meet w a b wa wb = record {
    left = wa.left;
    right = laws.proper_meet a b wa.right wb.right;
    below =
        sym (laws.associative w a b wa.left wa.right wb.right)
        ∙ ap (λ u. A.meet u b) wa.below
        ∙ wb.below;
  }

  -- a distributive map keeps the order
  pub distributive-mono : (h : L → L) → IsDistributive A h → (a b : L) → IsBelow A a b → IsBelow A (h a) (h b)
  distributive-mono h good a b ab = record {
    left = good.proper a ab.left;
    right = good.proper b ab.right;
    below = sym (good.carries a b ab.left ab.right) ∙ ap h ab.below;
  }
