-- What the values of a frozen image are.
use Rattle.ide_lattice.specs.Algebra.{LatticeAlgebra, EdgeAlgebra}
use Rattle.ide_problem.specs.Flow.{Targets}
use Rattle.ide_steps.specs.Frozen.{graph_in}
use Rattle.ide_steps.specs.declared.closed.Closed.{Closed}
use Rattle.ide_image.specs.Tables.{Table}
use Rattle.ide_values.specs.Best.{AreBest}
use Rattle.ide_values.specs.Closed.{FollowFrom}
use Rattle.ide_values.specs.Values.{AreValues, ValuesData, value_there}

module _ {F L : Type 0} (A : LatticeAlgebra L) (B : EdgeAlgebra F L) (targets : Targets F) where
  -- the values follow from start values for the roots of the image, over its graph and its tables
  abbrev pub FollowClosed : {P : Type 0} → Closed P L F → ValuesData L → Type 0
  FollowClosed closed values = FollowFrom A B targets (graph_in closed) closed.tables.table closed.roots.items values.values

  -- the values come of the image's tables by way of start values
  abbrev pub AreValuesOf : {P : Type 0} → Closed P L F → ValuesData L → Type 0
  AreValuesOf closed values = AreValues A B targets (graph_in closed) closed.tables.table closed.roots.items values.values

  -- the values are best, where a run over their graph came to the tables
  abbrev pub AreBestOf : Table F → ValuesData L → Type 0
  AreBestOf table values = AreBest A B targets values.graph values.roots table (value_there A values)
