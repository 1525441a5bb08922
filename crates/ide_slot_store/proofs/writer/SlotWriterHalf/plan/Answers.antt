use Rattle.std.proofs.Common.{refl}
use Rattle.ide_slot_store.proofs.Half.{if_planned}
use Rattle.ide_slot_store.proofs.writer.SlotWriterHalf.plan.Goals as goal

pub returns-clause-writes : goal.returns-clause-writes
returns-clause-writes g c = if_planned c.args.self.now _ _ c.plan.result refl refl c.plan.ensures.planned
