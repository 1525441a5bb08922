use Rattle.ide_theory.proofs.Laws.Given.{runs-go-on-over}
use Rattle.ide_theory.proofs.runs_go_on.Goals as goal

pub returns : goal.returns
returns g c =
    runs-go-on-over g.P.L.Lattice.algebra g.P.F.EdgeFn.edge g.P.Problem.targets
    g.met.P.L.Lattice.lawful g.met.P.F.EdgeFn.lawful g.met.P.Problem.lawful
