use Rattle.ide_batch.specs.Items.{functions_by}
use Rattle.ide_batch.proofs.Apart.{apart}
use Rattle.ide_batch.proofs.laws.bodies_are_apart.Goals as goal

pub returns : goal.returns
returns g c = apart (functions_by g.F.Wire.proper g.F.Wire.form g.F.PartialEq.eq g.F.EdgeFn.edge.all_top) g.met.F.Wire.prefix_free
