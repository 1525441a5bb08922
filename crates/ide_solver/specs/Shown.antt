-- An analysis, as the contracts of the solver see it.
use Rattle.std.specs.Prelude.{ℕ, List}
use Rattle.ide_lattice.specs.Algebra.{LatticeAlgebra, EdgeAlgebra}
use Rattle.ide_problem.specs.Flow.{Targets}

-- its lattice and its functions, what its flow does, and how its values are shown
pub record ShownAnalysis (F L : Type 0) : Type 0 where
  pub lattice : LatticeAlgebra L
  pub functions : EdgeAlgebra F L
  pub targets : Targets F
  pub shown : L → List ℕ
