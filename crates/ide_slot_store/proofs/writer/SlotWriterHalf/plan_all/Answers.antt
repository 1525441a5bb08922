use Rattle.ide_slot_store.proofs.PlanningAll.{none_kept}
use Rattle.ide_slot_store.proofs.writer.SlotWriterHalf.plan_all.Goals as goal

pub returns-clause-none : goal.returns-clause-none
returns-clause-none g c is = none_kept c.args.self.now c.args.self.now (c.plan_over-planned.ensures.none is)
