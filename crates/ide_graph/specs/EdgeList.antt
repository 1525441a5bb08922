-- What contracts see of edges that stand in one place or in a list of their own.
use Rattle.std.specs.Prelude.{List, [], ◌∷◌}
use Rattle.ide_graph.specs.declared.edge.EdgeData.{EdgeData}
use Rattle.ide_graph.specs.declared.edges.EdgeList.{EdgeList}
use Rattle.ide_graph.specs.declared.edges.EdgeList.TheVariants.{One, Many}

-- the edges, in their order
abbrev pub edges_in : EdgeList → List EdgeData
edges_in (One edge) = edge ∷ []
edges_in (Many edges) = edges.items
