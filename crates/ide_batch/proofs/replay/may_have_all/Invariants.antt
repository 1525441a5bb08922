use Rattle.std.proofs.Common.{take}
use Rattle.ide_batch.specs.Applied.{MayHaveAll}
use Rattle.ide_batch.proofs.replay.may_have_all.Given as goal

abbrev pub invariant-loop-item : goal.invariant-loop-item
invariant-loop-item g l = MayHaveAll l.core (take l.item-index l.items)
