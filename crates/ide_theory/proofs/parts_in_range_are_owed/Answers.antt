use Rattle.ide_theory.proofs.Laws.Given.{parts-in-range-are-owed}
use Rattle.ide_theory.proofs.parts_in_range_are_owed.Goals as goal

pub returns : goal.returns
returns g c =
    parts-in-range-are-owed g.P.L.Lattice.algebra g.P.F.EdgeFn.edge g.P.Problem.targets
    g.met.P.L.Lattice.lawful g.met.P.F.EdgeFn.lawful g.met.P.Problem.lawful
