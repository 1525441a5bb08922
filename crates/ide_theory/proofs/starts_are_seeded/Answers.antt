use Rattle.ide_theory.proofs.Laws.Given.{starts-are-seeded}
use Rattle.ide_theory.proofs.starts_are_seeded.Goals as goal

pub returns : goal.returns
returns g c =
    starts-are-seeded g.P.L.Lattice.algebra g.P.F.EdgeFn.edge g.P.Problem.targets
    g.met.P.L.Lattice.lawful g.met.P.F.EdgeFn.lawful g.met.P.Problem.lawful
