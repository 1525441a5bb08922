use Rattle.std.proofs.Common.{◌∙◌, ◌<◌, ◌++◌, ℕ, List, length, ap, refl, subst, sym, arith}
use Rattle.ide_journal.specs.Lists.{entries_of}
use Rattle.ide_slots.specs.Records.{all_numbered}
use Rattle.ide_slots.specs.Slot.{AreCommands}
use Rattle.ide_slots.specs.declared.record.NumberedRecord.{NumberedRecord}
use Rattle.ide_store.specs.TwoDisks.{commands_from}
use Rattle.ide_slot_store.proofs.PlanningAll.{make_up, planned_over, some_in}
use Rattle.ide_slot_store.proofs.planning.plan_over.Goals as goal

pub plan-requires-clause-proper : goal.plan-requires-clause-proper
plan-requires-clause-proper g c =
    let no = some_in _ c.if-is_empty.ensures in
    let long = c.as_slice-2.ensures.len in
    let some : 0 < length c.as_slice-2.result.now = omega (arith, no, long) in
    make_up c.in-Some.base c.as_slice-2.result.now c.args.parts.now c.in-Some.ensures.few some
    (subst (λ (commands : List NumberedRecord). AreCommands 0 c.in-Some.base (all_numbered commands))
    (c.as_slice.ensures.value ∙ sym c.as_slice-2.ensures.value) (c.if-not-are_fit.ensures.0 refl))
    c.requires.parts c.requires.few

pub returns-in-Ok-clause-planned : goal.returns-in-Ok-clause-planned
returns-in-Ok-clause-planned g c is =
    let base = c.in-Some.ensures.base in
    let stored = c.count-stored.ensures in
    let waiting = c.len.ensures in
    planned_over c.args.journal.now c.plan.new.self c.in-Some.base _ c.as_slice-2.result.now _ c.args.parts.now c.in-Ok.ensures.planned
    (omega (arith, base, stored, waiting))
    (ap all_numbered c.as_slice-2.ensures.value ∙ c.in_ok-add_waiting.ensures.added
    ∙ ap (λ (n : ℕ). all_numbered c.args.commands.now.items ++ commands_from n (entries_of c.args.waiting.now.items)) stored)
