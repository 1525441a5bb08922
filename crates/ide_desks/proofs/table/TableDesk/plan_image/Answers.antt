use Rattle.std.proofs.Common.{◌≡◌, ◌∙◌, All, List, Ok, true, ap, refl, subst, sym}
use Rattle.std.proofs.Math.Logic.{∥∥₁_map, ∥∥₁_map₂}
use Rattle.ide_journal.specs.Lists.{entries_of}
use Rattle.ide_board.specs.Records.{Marked}
use Rattle.ide_journal.specs.declared.record.RawRecord.{RawRecord}
use Rattle.ide_journal.specs.declared.version.Version.TheVariants.{Two}
use Rattle.ide_slots.specs.Slot.{IsPartEntry}
use Rattle.ide_slot_store.specs.Parts.{AreImageParts}
use Rattle.ide_slot_store.proofs.ImageParts.{parts_proper}
use Rattle.ide_store.specs.Table.{Analysis}
use Rattle.ide_desks.specs.Asking.{no_parts, not_planned, table_told, writer_told}
use Rattle.ide_desks.specs.Desks.{CountsSealed, IsTableDesk, IsWriterDesk}
use Rattle.ide_desks.specs.Switching.{version_after}
use Rattle.ide_desks.proofs.Planning.{desk_planned, desk_spelled, desk_unplanned}
use Rattle.ide_desks.proofs.table.TableDesk.plan_image.Given.{Over}
use Rattle.ide_desks.proofs.table.TableDesk.plan_image.Goals as goal
use Rattle.ide_desks.proofs.table.TableDesk.plan_image.Goals.{then-has_failed-via-else-has_failed+then-is_stopped, then-has_failed-via-then-has_failed}

-- the analysis of the store
abbrev kept : (g : Over) → Analysis g.row.P-F.Denot g.row.P-L.Denot
kept g = record {
  lattice = g.P.L.Lattice.algebra;
  functions = g.P.F.EdgeFn.edge;
  targets = g.P.Problem.targets;
  same = g.P.F.PartialEq.eq;
  proper = g.P.F.Wire.proper;
  form = g.P.F.Wire.form;
}

pub plan_all-requires-clause-parts : goal.plan_all-requires-clause-parts
plan_all-requires-clause-parts g c =
    let are = c.in-Ok.ensures.parts in
    subst (λ (rs : List RawRecord). All IsPartEntry (entries_of rs)) (sym c.as_slice.ensures.value)
    (parts_proper (kept g) are.items (entries_of c.in-Ok.parts.items) are.in_parts)

-- ---- where one is planned, the writer is live with it, and both spell in the second version
pub invariant_of-self : goal.invariant_of-self
invariant_of-self g c =
    let table = c.args.self.now in
    let writer = c.args.writer.now in
    let image =
    subst (λ (rs : List RawRecord). AreImageParts (kept g) table.half (entries_of rs)) (sym c.as_slice.ensures.value) c.in-Ok.ensures.parts in
    record {
      named = table.named;
      switched = c.note.ensures.board ∙ table.switched;
      counts = subst (λ t. CountsSealed t table.seat) (sym c.spell_in.ensures) (record { count = table.counts.count; handed = table.counts.handed });
      kept = λ told.
          let first = g.J.Accord.first told in
          let version = g.J.Accord.version told in
          ∥∥₁_map₂ (table.kept told) (writer.kept told) (λ desk writes.
          subst (λ (xs : List (Marked (Unit {0}))). IsTableDesk (kept g) g.P.Problem.TAG (version_after version xs) first c.spell_in.new.self table.seat)
          (sym c.note.ensures.table)
          (subst (λ t. IsTableDesk (kept g) g.P.Problem.TAG Two first t table.seat) (sym c.spell_in.ensures)
          (desk_spelled (kept g) g.P.Problem.TAG (version_after version table.switch.seat.sealed) first table.half writer.half c.plan_all.new.self table.seat
          writer.seat table.counts c.requires.handed c.requires.taken desk c.halves_meet.ensures c.runs_are_live.ensures
          c.slot_checkpoints_begin.ensures.begins (sym c.is_stopped.ensures ∙ c.if-is_stopped.false) writer.failed
          (sym c.has_failed.ensures ∙ c.if-has_failed.false)
          (subst (λ (xs : List (Marked (Unit {0}))). IsWriterDesk (kept g) g.P.Problem.TAG (version_after version xs) first writer.half writer.seat writer.failed)
          c.requires.agreed writes)
          c.requires.still (entries_of c.as_slice.result.now) image
          (c.plan_all.ensures.planned (c.in-Ok-true.is ∙ ap (λ b. Ok b) c.in-Ok-true.field-0-test)) c.plan_all.ensures.disks)));
    }

pub invariant_of-writer : goal.invariant_of-writer
invariant_of-writer g c =
    let table = c.args.self.now in
    let writer = c.args.writer.now in
    let image =
    subst (λ (rs : List RawRecord). AreImageParts (kept g) table.half (entries_of rs)) (sym c.as_slice.ensures.value) c.in-Ok.ensures.parts in
    record {
      named = writer.named;
      switched = c.note.ensures.writers_board ∙ writer.switched;
      counts = writer.counts;
      kept = λ told.
          let first = g.J.Accord.first told in
          let version = g.J.Accord.version told in
          ∥∥₁_map₂ (table.kept told) (writer.kept told) (λ desk writes.
          subst (λ (xs : List (Marked (Unit {0}))). IsWriterDesk (kept g) g.P.Problem.TAG (version_after version xs) first c.plan_all.new.self writer.seat writer.failed)
          (sym c.note.ensures.writer)
          (desk_planned (kept g) g.P.Problem.TAG (version_after version table.switch.seat.sealed) first table.half writer.half c.plan_all.new.self table.seat
          writer.seat table.counts c.requires.handed c.requires.taken desk c.halves_meet.ensures c.runs_are_live.ensures
          c.slot_checkpoints_begin.ensures.begins (sym c.is_stopped.ensures ∙ c.if-is_stopped.false) writer.failed
          (sym c.has_failed.ensures ∙ c.if-has_failed.false)
          (subst (λ (xs : List (Marked (Unit {0}))). IsWriterDesk (kept g) g.P.Problem.TAG (version_after version xs) first writer.half writer.seat writer.failed)
          c.requires.agreed writes)
          c.requires.still (entries_of c.as_slice.result.now) image
          (c.plan_all.ensures.planned (c.in-Ok-true.is ∙ ap (λ b. Ok b) c.in-Ok-true.field-0-test)) c.plan_all.ensures.disks));
    }

-- ---- where none is, the writer is live as it was
pub invariant_of-writer-in-Ok-false : goal.invariant_of-writer-in-Ok-false
invariant_of-writer-in-Ok-false g c =
    let table = c.args.self.now in
    let writer = c.args.writer.now in
    let none : c.plan_all.result ≡ Ok true → ⊥ = λ is. cc (is, c.in-Ok-false.is, c.in-Ok-false.field-0-test) in
    record {
      named = writer.named;
      switched = writer.switched;
      counts = writer.counts;
      kept = λ told. ∥∥₁_map (writer.kept told) (λ writes.
          desk_unplanned (kept g) g.P.Problem.TAG (version_after (g.J.Accord.version told) writer.switch.seat.taken) (g.J.Accord.first told) table.half writer.half
          c.plan_all.new.self table.seat writer.seat c.two_disks_are_a_store.ensures.keep writer.failed (sym c.has_failed.ensures ∙ c.if-has_failed.false)
          c.plan_all.ensures.disks (c.plan_all.ensures.unplanned none) (c.plan_all.ensures.quiet none) writes);
    }

pub invariant_of-writer-in-Err-plan_all : goal.invariant_of-writer-in-Err-plan_all
invariant_of-writer-in-Err-plan_all g c =
    let table = c.args.self.now in
    let writer = c.args.writer.now in
    let none : c.plan_all.result ≡ Ok true → ⊥ = λ is. cc (is, c.in-Err-plan_all.is) in
    record {
      named = writer.named;
      switched = writer.switched;
      counts = writer.counts;
      kept = λ told. ∥∥₁_map (writer.kept told) (λ writes.
          desk_unplanned (kept g) g.P.Problem.TAG (version_after (g.J.Accord.version told) writer.switch.seat.taken) (g.J.Accord.first told) table.half writer.half
          c.plan_all.new.self table.seat writer.seat c.two_disks_are_a_store.ensures.keep writer.failed (sym c.has_failed.ensures ∙ c.if-has_failed.false)
          c.plan_all.ensures.disks (c.plan_all.ensures.unplanned none) (c.plan_all.ensures.quiet none) writes);
    }

pub returns-in-Ok-false-clause-none : goal.returns-in-Ok-false-clause-none
returns-in-Ok-false-clause-none g c is =
    c.plan_all.ensures.none (c.in-Ok-false.is ∙ ap (λ b. Ok b) c.in-Ok-false.field-0-test)

-- ---- why it is refused
pub returns-then-has_failed-clause-refused : goal.returns-then-has_failed-clause-refused
returns-then-has_failed-clause-refused g c = elim c.then-has_failed.branch [
  | then-has_failed-via-then-has_failed w ↦ writer_told (sym c.has_failed.ensures ∙ w.if-has_failed.true)
  | then-has_failed-via-else-has_failed+then-is_stopped w ↦ table_told (sym w.is_stopped.ensures ∙ w.if-is_stopped.true)
]

pub returns-in-Err-clause-refused : goal.returns-in-Err-clause-refused
returns-in-Err-clause-refused g c = no_parts c.in-Err.ensures.refused

pub returns-clause-refused : goal.returns-clause-refused
returns-clause-refused g c = not_planned c.args.writer.now.half refl c.in-Err-plan_all.ensures.refused
