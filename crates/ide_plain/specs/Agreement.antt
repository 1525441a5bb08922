-- When values are those of a list, by rows of nodes.
use Rattle.std.specs.Prelude.{◌≡◌, ℕ, ◌+◌, ◌*◌, ◌<◌, List, slice_index_or}
use Rattle.ide_lattice.specs.Algebra.{LatticeAlgebra}
use Rattle.ide_values.specs.Values.{ValuesData, value_there}

module _ {L : Type 0} (A : LatticeAlgebra L) where
  -- the list has the value of the fact at the node in its place
  abbrev pub IsSameAt : ValuesData L → List L → ℕ → ℕ → Type 0
  IsSameAt values listed node fact = slice_index_or listed (node * values.graph.facts + fact) A.top ≡ value_there A values node fact

  -- and so for each fact at the node
  abbrev pub AreSameAt : ValuesData L → List L → ℕ → Type 0
  AreSameAt values listed node = (d : ℕ) → d < values.graph.facts → IsSameAt values listed node d

  -- and at each node
  abbrev pub AreSame : ValuesData L → List L → Type 0
  AreSame values listed = (n d : ℕ) → n < values.graph.nodes → d < values.graph.facts → IsSameAt values listed n d
