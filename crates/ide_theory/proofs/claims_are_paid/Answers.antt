use Rattle.ide_theory.proofs.Laws.Given.{claims-are-paid}
use Rattle.ide_theory.proofs.claims_are_paid.Goals as goal

pub returns : goal.returns
returns g c =
    claims-are-paid g.P.L.Lattice.algebra g.P.F.EdgeFn.edge g.P.Problem.targets
    g.met.P.L.Lattice.lawful g.met.P.F.EdgeFn.lawful g.met.P.Problem.lawful
