use Rattle.ide_theory.proofs.Laws.Given.{best-is-unique}
use Rattle.ide_theory.proofs.best_is_unique.Goals as goal

pub returns : goal.returns
returns g c =
    best-is-unique g.P.L.Lattice.algebra g.P.F.EdgeFn.edge g.P.Problem.targets
    g.met.P.L.Lattice.lawful g.met.P.F.EdgeFn.lawful g.met.P.Problem.lawful
