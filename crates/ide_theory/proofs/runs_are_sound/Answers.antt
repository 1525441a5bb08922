use Rattle.ide_theory.proofs.Laws.Given.{runs-are-sound}
use Rattle.ide_theory.proofs.runs_are_sound.Goals as goal

pub returns : goal.returns
returns g c =
    runs-are-sound g.P.L.Lattice.algebra g.P.F.EdgeFn.edge g.P.Problem.targets
    g.met.P.L.Lattice.lawful g.met.P.F.EdgeFn.lawful g.met.P.Problem.lawful
