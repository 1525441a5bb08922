use Rattle.ide_theory.proofs.Laws.Given.{lowerings-are-few}
use Rattle.ide_theory.proofs.lowerings_are_few.Goals as goal

pub returns : goal.returns
returns g c =
    lowerings-are-few g.P.L.Lattice.algebra g.P.F.EdgeFn.edge g.P.Problem.targets
    g.met.P.L.Lattice.lawful g.met.P.F.EdgeFn.lawful g.met.P.Problem.lawful
