use Rattle.std.proofs.Common.{ap, refl}
use Rattle.ide_slots.specs.Slot.{SlotHead}
use Rattle.ide_slot_journal.proofs.Opened.{resumed}
use Rattle.ide_slot_journal.proofs.journal.SlotJournal.resume.Goals as goal

pub returns-in-Ok-clause-resumes : goal.returns-in-Ok-clause-resumes
returns-in-Ok-clause-resumes g c honest is =
    resumed c.args.current _ c.in-Ok.slot c.in-Ok.ensures.whole (c.in-Ok.ensures.recovered honest is) refl
    (ap (λ (h : SlotHead). h.generation) c.head.view_is) (ap (λ (h : SlotHead). h.base) c.head.view_is) (ap (λ (h : SlotHead). h.head.version) c.head.view_is)
    (ap (λ (h : SlotHead). h.head.tag) c.head.view_is) c.count_of-count.ensures.count
