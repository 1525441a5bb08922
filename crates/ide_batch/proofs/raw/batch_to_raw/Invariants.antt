use Rattle.std.proofs.Common.{take}
use Rattle.ide_batch.specs.Items.{functions_by}
use Rattle.ide_batch.specs.Writing.{Holds}
use Rattle.ide_batch.proofs.raw.batch_to_raw.Given as goal

abbrev pub invariant-loop-item : goal.invariant-loop-item
invariant-loop-item g l =
    Holds (functions_by g.F.Wire.proper g.F.Wire.form g.F.PartialEq.eq g.F.EdgeFn.edge.all_top) l.fn.version (take l.item-index l.items) l.writer
