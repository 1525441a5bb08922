use Rattle.std.proofs.Common.{List, ℕ, ◌∙◌, subst, sym}
use Rattle.ide_slots.specs.Reading.{Tells}
use Rattle.ide_slot_journal.proofs.Openings.{not_read, refused_read, told_still, whole_read}
use Rattle.ide_slot_journal.proofs.opening.load.Goals as goal

pub returns-in-Err-clause-refused : goal.returns-in-Err-clause-refused
returns-in-Err-clause-refused g c honest told begins =
    not_read told (g.D.Disk.state c.args.disk.now).now c.in-Err.refused c.in-Err.ensures.refused

pub returns-in_default-clause-refused : goal.returns-in_default-clause-refused
returns-in_default-clause-refused g c honest told begins =
    absurd (told_still told _ (g.D.Disk.state c.args.disk.now).now (c.deref.ensures.value ∙ c.in-Ok.ensures.bytes honest) c.in_default.ensures.none begins.tells)

pub returns-clause-whole : goal.returns-clause-whole
returns-clause-whole g c = whole_read c.read_slot.result _ c.read_slot.ensures.records c.read_slot.ensures.closed

pub returns-clause-refused : goal.returns-clause-refused
returns-clause-refused g c honest =
    refused_read c.read_slot.result _ _ (g.D.Disk.state c.args.disk.now).now (c.deref-2.ensures.value ∙ c.in-Ok.ensures.bytes honest)
    (subst (λ (xs : List ℕ). Tells c.in-Some.head xs) (c.deref.ensures.value ∙ sym c.deref-2.ensures.value) c.in-Some.ensures.told) c.read_slot.ensures.refused
