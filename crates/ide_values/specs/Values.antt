-- What contracts see of the values of a program, and what they come of.
use Rattle.std.specs.Global.{Vec}
use Rattle.std.specs.Prelude.{ℕ, ◌+◌, ◌*◌, ◌≤◌, ◌⊎◌, List, slice_index_or}
use Rattle.ide_graph.specs.Supergraph.{Supergraph}
use Rattle.ide_lattice.specs.Algebra.{LatticeAlgebra, EdgeAlgebra}
use Rattle.ide_problem.specs.Flow.{Targets}
use Rattle.ide_image.specs.Tables.{Table}
use Rattle.ide_text.specs.Value.{ProgramValue}
use Rattle.ide_values.specs.Dump.{Appends, dump_of, lines_at}
use Rattle.ide_values.specs.Fill.{Fills}
use Rattle.ide_values.specs.Settled.{AreStarts}

-- what the program says, its graph, the roots as indices of procedures, and rows of values by node, one for
-- each fact
pub record ValuesData (L : Type 0) : Type 0 where
  pub program : ProgramValue
  pub graph : Supergraph
  pub roots : List ℕ
  pub values : List L

-- the value of a fact at a node
abbrev pub value_there : {L : Type 0} → LatticeAlgebra L → ValuesData L → ℕ → ℕ → L
value_there A values node fact = slice_index_or values.values (node * values.graph.facts + fact) A.top

-- the node or the fact is not there
abbrev pub IsOutside : {L : Type 0} → ValuesData L → ℕ → ℕ → Type 0
IsOutside values node fact = (values.graph.nodes ≤ node) ⊎ (values.graph.facts ≤ fact)

-- the lines of a node in the dump of the values, where each is shown so
abbrev pub lines_of_values : {L : Type 0} → LatticeAlgebra L → (L → List ℕ) → ValuesData L → ℕ → List ℕ
lines_of_values A shown values = lines_at values.graph (λ n d. shown (value_there A values n d))

-- the dump of the values
abbrev pub dump_of_values : {L : Type 0} → LatticeAlgebra L → (L → List ℕ) → ValuesData L → List ℕ
dump_of_values A shown values = dump_of values.graph (λ n d. shown (value_there A values n d))

-- the dump of the values is appended, and the lines of a node
abbrev pub AppendsDump : {L : Type 0} → LatticeAlgebra L → (L → List ℕ) → ValuesData L → (old new : Vec ℕ) → Type 0
AppendsDump A shown values old new = Appends (dump_of_values A shown values) old new

abbrev pub AppendsLines : {L : Type 0} → LatticeAlgebra L → (L → List ℕ) → ValuesData L → ℕ → (old new : Vec ℕ) → Type 0
AppendsLines A shown values node old new = Appends (lines_of_values A shown values node) old new

-- the rows of values come of the table by way of start values
pub record AreValues {F L : Type 0} (A : LatticeAlgebra L) (B : EdgeAlgebra F L) (targets : Targets F) (graph : Supergraph) (table : Table F) (roots : List ℕ) (values : List L) : Type 0 where
  pub starts : List L
  pub started : AreStarts A B targets graph table roots starts
  pub filled : Fills A B graph table starts values
