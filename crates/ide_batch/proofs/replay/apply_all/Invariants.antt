use Rattle.std.proofs.Common.{take}
use Rattle.ide_journal.specs.Lists.{entries_of}
use Rattle.ide_image.specs.Worklist.{IsFree}
use Rattle.ide_batch.specs.AppliedAll.{AreApplied}
use Rattle.ide_batch.specs.Items.{functions_by}
use Rattle.ide_batch.proofs.replay.apply_all.Given as goal

abbrev pub invariant-loop-n : goal.invariant-loop-n
invariant-loop-n g l = record {
  applied : AreApplied (functions_by g.P.F.Wire.proper g.P.F.Wire.form g.P.F.PartialEq.eq g.P.F.EdgeFn.edge.all_top) l.version g.P.F.EdgeFn.edge g.P.F.PartialEq.eq
      (entries_of (take l.n l.records)) l.fn.core l.core;
  free : IsFree l.core.pile;
}
