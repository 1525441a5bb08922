-- The dump of an image's values, which are written as they are filled and stand nowhere whole.
use Rattle.std.specs.Prelude.{◌≡◌, ℕ, List, Option, Result, IfOk, OnOk}
use Rattle.std.specs.Io.KnownBytes.{Appends as WritesOut}
use Rattle.ide_graph.specs.Supergraph.{Supergraph}
use Rattle.ide_image.specs.Tables.{Table}
use Rattle.ide_lattice.specs.Algebra.{LatticeAlgebra, EdgeAlgebra}
use Rattle.ide_problem.specs.Flow.{Targets}
use Rattle.ide_steps.specs.Frozen.{graph_in, program_in}
use Rattle.ide_steps.specs.declared.closed.Closed.{Closed}
use Rattle.ide_values.specs.Fill.{Fills}
use Rattle.ide_values.specs.Frozen.{AreBestOf, AreValuesOf, FollowClosed}
use Rattle.ide_values.specs.Rows.{lines_of_rows}
use Rattle.ide_values.specs.Values.{ValuesData, dump_of_values}

-- there are rows that are filled from the starts, and where the output did not fail their lines are written
pub record WritesFilled {F L : Type 0} (A : LatticeAlgebra L) (B : EdgeAlgebra F L) (shown : L → List ℕ) (graph : Supergraph) (table : Table F) (starts : List L)
    {T E : Type 0} (end : Result T E) (before after : Option (List ℕ)) : Type 0 where
  pub rows : List L
  pub filled : Fills A B graph table starts rows
  pub written : OnOk end (WritesOut before after (lines_of_rows A shown graph 0 graph.nodes rows))

-- there are values of the image, which are best, and where the output did not fail their dump is written
pub record WritesValues {F L P : Type 0} (A : LatticeAlgebra L) (B : EdgeAlgebra F L) (targets : Targets F) (shown : L → List ℕ) (closed : Closed P L F)
    {T E : Type 0} (end : Result T E) (before after : Option (List ℕ)) : Type 0 where
  pub values : ValuesData L
  pub program : values.program ≡ program_in closed
  pub graph : values.graph ≡ graph_in closed
  pub roots : values.roots ≡ closed.roots.items
  pub follow : FollowClosed A B targets closed values
  pub come : AreValuesOf A B targets closed values
  pub best : AreBestOf A B targets closed.tables.table values
  pub written : OnOk end (WritesOut before after (dump_of_values A shown values))

-- a call that is not refused writes the dump of such values
abbrev pub WritesDumpOf : {F L P : Type 0} → LatticeAlgebra L → EdgeAlgebra F L → Targets F → (L → List ℕ) → Closed P L F
    → {T E R : Type 0} → Result (Result T E) R → (before after : Option (List ℕ)) → Type 0
WritesDumpOf A B targets shown closed result before after = IfOk result (λ end. WritesValues A B targets shown closed end before after)
