use Rattle.std.proofs.Common.{ℕ, [], subst, sym}
use Rattle.ide_journal.specs.Format.{head_of}
use Rattle.ide_journal.specs.declared.version.Version.TheVariants.{Two}
use Rattle.ide_slot_journal.specs.Opened.{IsOpeningRefusal, StopsAnywhere, states_of}
use Rattle.ide_slot_journal.specs.Opening.{now_of}
use Rattle.ide_slot_journal.specs.Stands.{disks_of, sides_of, slot_writer}
use Rattle.ide_slots.specs.Slot.{first_slot}
use Rattle.ide_slots.specs.TwoCalls.{StopsTwo}
use Rattle.ide_store.specs.Table.{Analysis}
use Rattle.ide_slot_store.specs.Batches.{batches_of}
use Rattle.ide_slot_store.specs.Engine.{no_journal, no_table}
use Rattle.ide_slot_store.specs.Half.{OpensStore}
use Rattle.ide_slot_store.proofs.Stopping.{done_stops, held_by, opening_crashes, opening_stops, table_not_disk}
use Rattle.ide_slot_store.proofs.engine.SlotEngine.open.Given.{Over}
use Rattle.ide_slot_store.proofs.engine.SlotEngine.open.Goals as goal

-- the analysis of the store
abbrev kept : (g : Over) → Analysis g.row.P-F.Denot g.row.P-L.Denot
kept g = record {
  lattice = g.P.L.Lattice.algebra;
  functions = g.P.F.EdgeFn.edge;
  targets = g.P.Problem.targets;
  same = g.P.F.PartialEq.eq;
  proper = g.P.F.Wire.proper;
  form = g.P.F.Wire.form;
}

-- ---- it is opened
pub returns-in-Ok-table_over-clause-opened : goal.returns-in-Ok-table_over-clause-opened
returns-in-Ok-table_over-clause-opened g c first second =
    let writer = c.in-Ok.writer in
    let found = c.in-Ok.found.items in
    c.slot_halves_open.ensures g.P.Problem.TAG c.args.a c.args.b writer found c.in-Ok-table_over.table
    (subst (λ (tag : ℕ). OpensStore tag c.args.a c.args.b writer found) c.TAG.ensures (c.in-Ok.ensures.opened first second))
    c.in-Ok-table_over.ensures.folds c.in-Ok-table_over.ensures.opened c.in-Ok-table_over.ensures.version c.in-Ok-table_over.ensures.sealed

pub returns-in-Ok-table_over-clause-crashes : goal.returns-in-Ok-table_over-clause-crashes
returns-in-Ok-table_over-clause-crashes g c first second tag =
    opening_crashes (kept g) tag g.D.Disk c.args.a c.args.b (sides_of c.in-Ok.writer.journal) (c.in-Ok.ensures.any_moment first second)

-- ---- the records make no half that works
pub returns-in-Err-table_over-clause-crashes : goal.returns-in-Err-table_over-clause-crashes
returns-in-Err-table_over-clause-crashes g c first second tag =
    let back = c.into_disks-a.result in
    opening_crashes (kept g) tag g.D.Disk c.args.a c.args.b (record { a = back.0; b = back.1 })
    (subst (λ (pair : g.row.D.Denot × g.row.D.Denot). StopsAnywhere g.D.Disk c.args.a c.args.b (record { a = pair.0; b = pair.1 }))
    (sym c.into_disks-a.ensures) (c.in-Ok.ensures.any_moment first second))

pub returns-in-Err-table_over-clause-stops : goal.returns-in-Err-table_over-clause-stops
returns-in-Err-table_over-clause-stops g c first second tag =
    let G = g.D.Disk in
    let back = c.into_disks-a.result in
    let journal = c.in-Ok.writer.journal in
    let other = first_slot (head_of Two c.TAG.result) [] in
    let before = states_of G c.args.a c.args.b in
    let opens = (c.in-Ok.ensures.opened first second).opens.opens other in
    let done : StopsTwo before (disks_of journal) =
    done_stops before (slot_writer other journal) (disks_of journal) opens (g.met.D.Disk.possible c.args.a first)
    (g.met.D.Disk.possible c.args.b second) in
    let held : StopsTwo before (states_of G (sides_of journal).a (sides_of journal).b) =
    subst (StopsTwo before) (sym (held_by G journal.side journal.current journal.other)) done in
    opening_stops (kept g) tag G c.args.a c.args.b (record { a = back.0; b = back.1 })
    (subst (λ (pair : g.row.D.Denot × g.row.D.Denot). StopsTwo before (states_of G pair.0 pair.1)) (sym c.into_disks-a.ensures) held)

pub returns-in-Err-table_over-clause-refused : goal.returns-in-Err-table_over-clause-refused
returns-in-Err-table_over-clause-refused g c first second =
    no_table c.in-Ok.writer c.in-Ok.found.items
    (subst (λ (tag : ℕ). OpensStore tag c.args.a c.args.b c.in-Ok.writer c.in-Ok.found.items) c.TAG.ensures (c.in-Ok.ensures.opened first second))
    (sym c.into_disks-a.ensures) c.in-Err-table_over.ensures.refused

pub returns-in-Err-table_over-clause-fault : goal.returns-in-Err-table_over-clause-fault
returns-in-Err-table_over-clause-fault g c is =
    absurd (table_not_disk (kept g) c.in-Ok.writer (batches_of c.in-Ok.found.items) c.in-Err-table_over.refused c.in-Err-table_over.ensures.refused is)

-- ---- no slot is opened
pub returns-in-Err-clause-refused : goal.returns-in-Err-clause-refused
returns-in-Err-clause-refused g c first second =
    no_journal (subst (λ (tag : ℕ). IsOpeningRefusal tag (now_of g.D.Disk c.args.a c.args.b) c.in-Err.all.0) c.TAG.ensures
    (c.in-Err.ensures.refused first second))
