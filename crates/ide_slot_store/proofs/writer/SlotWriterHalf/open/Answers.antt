use Rattle.std.proofs.Common.{◌∙◌, List, [], ap, subst, sym}
use Rattle.std.specs.List.{filter}
use Rattle.ide_journal.specs.Format.{head_of}
use Rattle.ide_journal.specs.declared.version.Version.TheVariants.{Two}
use Rattle.ide_slot_journal.specs.Opened.{IsOpeningRefusal, StopsAnywhere, states_of}
use Rattle.ide_slot_journal.specs.Opening.{now_of}
use Rattle.ide_slot_journal.specs.Stands.{disks_of, sides_of, slot_writer}
use Rattle.ide_slots.specs.Records.{all_numbered}
use Rattle.ide_slots.specs.Slot.{first_slot}
use Rattle.ide_slots.specs.TwoCalls.{StopsTwo}
use Rattle.ide_slots.specs.declared.record.NumberedRecord.{NumberedRecord}
use Rattle.ide_store.specs.TwoDisks.{is_command}
use Rattle.ide_wire.specs.declared.refused.Refused.{Refused}
use Rattle.ide_slot_store.proofs.Half.{opened_store}
use Rattle.ide_slot_store.proofs.Kept.{no_memory_found}
use Rattle.ide_slot_store.proofs.Stopping.{done_stops, held_by}
use Rattle.ide_slot_store.proofs.writer.SlotWriterHalf.open.Goals as goal

pub returns-in-Ok-commands_among-clause-opened : goal.returns-in-Ok-commands_among-clause-opened
returns-in-Ok-commands_among-clause-opened g c first second =
    opened_store c.args.tag c.args.a c.args.b _ _ (c.in-Ok.ensures.opened first second) c.in-Ok.ensures.rests c.new-waiting.ensures.items
    (c.in-Ok-commands_among.ensures.commands ∙ ap (λ (xs : List NumberedRecord). filter is_command (all_numbered xs)) c.as_slice.ensures.value)

-- ---- no memory for the commands
pub returns-in-Err-commands_among-clause-any_moment : goal.returns-in-Err-commands_among-clause-any_moment
returns-in-Err-commands_among-clause-any_moment g c first second =
    subst (λ (pair : g.row.D.Denot × g.row.D.Denot). StopsAnywhere g.D.Disk c.args.a c.args.b (record { a = pair.0; b = pair.1 }))
    (sym c.into_disks-a.ensures) (c.in-Ok.ensures.any_moment first second)

pub returns-in-Err-commands_among-clause-stops : goal.returns-in-Err-commands_among-clause-stops
returns-in-Err-commands_among-clause-stops g c first second =
    let G = g.D.Disk in
    let journal = c.in-Ok.journal in
    let other = first_slot (head_of Two c.args.tag) [] in
    let before = states_of G c.args.a c.args.b in
    let done : StopsTwo before (disks_of journal) =
    done_stops before (slot_writer other journal) (disks_of journal) ((c.in-Ok.ensures.opened first second).opens other)
    (g.met.D.Disk.possible c.args.a first) (g.met.D.Disk.possible c.args.b second) in
    let held : StopsTwo before (states_of G (sides_of journal).a (sides_of journal).b) =
    subst (StopsTwo before) (sym (held_by G journal.side journal.current journal.other)) done in
    subst (λ (pair : g.row.D.Denot × g.row.D.Denot). StopsTwo before (states_of G pair.0 pair.1)) (sym c.into_disks-a.ensures) held

pub returns-in-Err-commands_among-clause-refused : goal.returns-in-Err-commands_among-clause-refused
returns-in-Err-commands_among-clause-refused g c first second =
    subst (λ (e : Refused). IsOpeningRefusal c.args.tag (now_of g.D.Disk c.args.a c.args.b) e) (sym c.in-Err-commands_among.ensures.refused)
    (no_memory_found c.args.tag (states_of g.D.Disk c.args.a c.args.b) c.in-Ok.journal _ (c.in-Ok.ensures.opened first second))
