use Rattle.std.proofs.Common.{take}
use Rattle.ide_batch.specs.Applied.{SetsItems}
use Rattle.ide_image.specs.Worklist.{IsFree}
use Rattle.ide_batch.proofs.replay.set_all.Given as goal

abbrev pub invariant-loop-item : goal.invariant-loop-item
invariant-loop-item g l = record {
  sets : SetsItems l.fn.core l.core (take l.item-index l.items);
  free : IsFree l.core.pile;
}
