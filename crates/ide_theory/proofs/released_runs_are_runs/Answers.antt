use Rattle.ide_theory.specs.Given.{frame_of}
use Rattle.ide_theory.proofs.Laws.Released.{run-released}
use Rattle.ide_theory.proofs.released_runs_are_runs.Goals as goal

pub returns : goal.returns
returns g c G s run = run-released (frame_of g.P.L.Lattice.algebra g.P.F.EdgeFn.edge g.P.Problem.targets G) run
