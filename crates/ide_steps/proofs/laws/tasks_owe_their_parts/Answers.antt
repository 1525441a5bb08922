use Rattle.ide_graph.specs.Joined.{start_at}
use Rattle.ide_image.specs.Tables.{found}
use Rattle.ide_theory.specs.Sites.{edges_of, node_edges}
use Rattle.ide_steps.proofs.Owing.Owed.{task-owes}
use Rattle.ide_steps.proofs.laws.tasks_owe_their_parts.Goals as goal

pub returns : goal.returns
returns g c graph all joined few table task is ranged =
    let made = c.sites_make_a_graph.ensures graph.facts graph.sites all (start_at graph) joined in
    task-owes g.P.L.Lattice.algebra g.P.F.EdgeFn.edge g.P.Problem.targets graph all table few ranged task is
    (c.parts_in_range_are_owed.ensures (edges_of graph.facts graph.sites all (start_at graph)) made.0 (node_edges graph.facts graph.sites all) made.1 (found table) ranged task.key)
