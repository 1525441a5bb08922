use Rattle.ide_theory.proofs.Laws.Sites.{joined-graph, joined-edges}
use Rattle.ide_theory.proofs.sites_make_a_graph.Goals as goal

pub returns : goal.returns
returns g c facts sites all start_of joined = (
  joined-graph facts sites all start_of joined,
  joined-edges facts sites all start_of joined g.P.L.Lattice.algebra g.P.F.EdgeFn.edge g.P.Problem.targets,
)
