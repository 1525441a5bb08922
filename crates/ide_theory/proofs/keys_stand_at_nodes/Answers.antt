use Rattle.ide_theory.specs.Graphs.{frame_at}
use Rattle.ide_theory.proofs.Laws.Within.{nodes-of, within-run}
use Rattle.ide_theory.proofs.keys_stand_at_nodes.Goals as goal

pub returns : goal.returns
returns g c graph joined ends all s run =
    within-run (frame_at g.P.L.Lattice.algebra g.P.F.EdgeFn.edge g.P.Problem.targets graph all) graph
    (nodes-of g.P.L.Lattice.algebra g.P.F.EdgeFn.edge g.P.Problem.targets graph all joined ends) run
