use Rattle.ide_theory.specs.Given.{frame_of}
use Rattle.ide_theory.proofs.Laws.ImageWays.{way-image}
use Rattle.ide_theory.proofs.ways_are_image_steps.Goals as goal

pub returns : goal.returns
returns g c procedures same is_same G i s t way unrooted =
    way-image procedures (frame_of g.P.L.Lattice.algebra g.P.F.EdgeFn.edge g.P.Problem.targets G) same is_same i way unrooted
