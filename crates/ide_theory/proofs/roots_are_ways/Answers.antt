use Rattle.ide_theory.specs.Given.{frame_of}
use Rattle.ide_theory.proofs.Laws.ImageWays.{seeds-below, root-image}
use Rattle.ide_theory.proofs.roots_are_ways.Goals as goal

pub returns : goal.returns
returns g c procedures same G i s p name r is begins starts fits = (
  seeds-below (frame_of g.P.L.Lattice.algebra g.P.F.EdgeFn.edge g.P.Problem.targets G) s r starts (procedures.entries p) fits,
  root-image procedures (frame_of g.P.L.Lattice.algebra g.P.F.EdgeFn.edge g.P.Problem.targets G) same i s p name r is begins,
)
