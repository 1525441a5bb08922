use Rattle.ide_theory.proofs.Laws.Given.{values-are-best}
use Rattle.ide_theory.proofs.values_are_best.Goals as goal

pub returns : goal.returns
returns g c =
    values-are-best g.P.L.Lattice.algebra g.P.F.EdgeFn.edge g.P.Problem.targets
    g.met.P.L.Lattice.lawful g.met.P.F.EdgeFn.lawful g.met.P.Problem.lawful
