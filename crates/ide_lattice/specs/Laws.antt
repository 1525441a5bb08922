-- The laws of lattices and of edge functions, over proper values and functions alone: those whose
-- numbers fit their types.
use Rattle.std.specs.Prelude.{◌≡◌, ◌≢◌, ◌<◌, ◌≤◌, IsTrue}
use Rattle.ide_lattice.specs.Algebra.{LatticeAlgebra, EdgeAlgebra}

-- `meet` is a meet with neutral top and absorbing bottom, and falls from rank to rank
pub record IsLattice {L : Type 0} (A : LatticeAlgebra L) : Type 0 where
  pub proper_top : IsTrue (A.proper A.top)
  pub proper_bottom : IsTrue (A.proper A.bottom)
  pub proper_meet : (x y : L) → IsTrue (A.proper x) → IsTrue (A.proper y) → IsTrue (A.proper (A.meet x y))
  pub commutative : (x y : L) → IsTrue (A.proper x) → IsTrue (A.proper y) → A.meet x y ≡ A.meet y x
  pub associative : (x y z : L) → IsTrue (A.proper x) → IsTrue (A.proper y) → IsTrue (A.proper z)
      → A.meet (A.meet x y) z ≡ A.meet x (A.meet y z)
  pub idempotent : (x : L) → IsTrue (A.proper x) → A.meet x x ≡ x
  pub top_meet : (x : L) → IsTrue (A.proper x) → A.meet A.top x ≡ x
  pub bottom_meet : (x : L) → IsTrue (A.proper x) → A.meet A.bottom x ≡ A.bottom
  pub rank_most : (x : L) → IsTrue (A.proper x) → A.rank x ≤ A.height
  pub rank_falls : (x y : L) → IsTrue (A.proper x) → IsTrue (A.proper y) → A.meet x y ≢ x → A.rank (A.meet x y) < A.rank x

-- the functions are closed under composition and meet, each carries meets and top over, and two
-- that agree on every value are one
pub record IsEdgeAlgebra {F L : Type 0} (A : LatticeAlgebra L) (B : EdgeAlgebra F L) : Type 0 where
  pub proper_id : IsTrue (B.proper B.id)
  pub proper_all_top : IsTrue (B.proper B.all_top)
  pub proper_apply : (f : F) (x : L) → IsTrue (B.proper f) → IsTrue (A.proper x) → IsTrue (A.proper (B.apply f x))
  pub proper_compose : (f g : F) → IsTrue (B.proper f) → IsTrue (B.proper g) → IsTrue (B.proper (B.compose f g))
  pub proper_meet : (f g : F) → IsTrue (B.proper f) → IsTrue (B.proper g) → IsTrue (B.proper (B.meet f g))
  pub apply_id : (x : L) → IsTrue (A.proper x) → B.apply B.id x ≡ x
  pub apply_all_top : (x : L) → IsTrue (A.proper x) → B.apply B.all_top x ≡ A.top
  pub apply_top : (f : F) → IsTrue (B.proper f) → B.apply f A.top ≡ A.top
  pub apply_compose : (f g : F) (x : L) → IsTrue (B.proper f) → IsTrue (B.proper g) → IsTrue (A.proper x)
      → B.apply (B.compose f g) x ≡ B.apply g (B.apply f x)
  pub apply_meet : (f g : F) (x : L) → IsTrue (B.proper f) → IsTrue (B.proper g) → IsTrue (A.proper x)
      → B.apply (B.meet f g) x ≡ A.meet (B.apply f x) (B.apply g x)
  pub distributive : (f : F) (x y : L) → IsTrue (B.proper f) → IsTrue (A.proper x) → IsTrue (A.proper y)
      → B.apply f (A.meet x y) ≡ A.meet (B.apply f x) (B.apply f y)
  pub exact : (f g : F) → IsTrue (B.proper f) → IsTrue (B.proper g)
      → ((x : L) → IsTrue (A.proper x) → B.apply f x ≡ B.apply g x) → f ≡ g
  pub rank_most : (f : F) → IsTrue (B.proper f) → B.rank f ≤ B.height
  pub rank_all_top : B.rank B.all_top ≡ B.height
  pub rank_falls : (f g : F) → IsTrue (B.proper f) → IsTrue (B.proper g) → B.meet f g ≢ f → B.rank (B.meet f g) < B.rank f
