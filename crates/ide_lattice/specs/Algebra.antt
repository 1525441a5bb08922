-- What a lattice and its edge functions compute: one record for each trait, which definitions and
-- lemmas of the crates above take as an argument.
use Rattle.std.specs.Prelude.{ℕ, Bool}

-- a meet semilattice with top and bottom, ranks below a height, and the test of proper values
pub record LatticeAlgebra (L : Type 0) : Type 0 where
  pub proper : L → Bool
  pub top : L
  pub bottom : L
  pub meet : L → L → L
  pub rank : L → ℕ
  pub height : ℕ

-- functions over a lattice in a coded form, with composition (first, then second) and meet
pub record EdgeAlgebra (F L : Type 0) : Type 0 where
  pub proper : F → Bool
  pub id : F
  pub all_top : F
  pub apply : F → L → L
  pub compose : F → F → F
  pub meet : F → F → F
  pub rank : F → ℕ
  pub height : ℕ
