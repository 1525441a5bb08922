-- The fill, as workers share it by ranges of nodes.
use Rattle.std.specs.Prelude.{◌≡◌, ℕ, ◌+◌, ◌*◌, ◌/◌, List}
use Rattle.ide_graph.specs.Supergraph.{Supergraph}
use Rattle.ide_lattice.specs.Algebra.{LatticeAlgebra, EdgeAlgebra}
use Rattle.ide_image.specs.Tables.{Table}
use Rattle.ide_values.specs.Fill.{IsFilledAt}
use Rattle.ide_values.specs.Share.{Sharing}

-- how many of so many nodes are those of the workers before one, where so many share them
abbrev pub nodes_before : (nodes workers worker : ℕ) → ℕ
nodes_before nodes workers worker = worker * nodes / workers

-- of so many nodes from the first on each worker fills the rows of its own, which are tops before
abbrev pub sharing_of : {F L : Type 0} → LatticeAlgebra L → EdgeAlgebra F L → Supergraph → Table F → List L → (first nodes workers : ℕ) → Sharing L
sharing_of A B graph table starts first nodes workers = record {
  workers = workers;
  start = λ worker. nodes_before nodes workers worker * graph.facts;
  is_blank = λ value. value ≡ A.top;
  is_filled = λ place. IsFilledAt A B graph table starts (first * graph.facts + place);
}
