use Rattle.std.proofs.Common.{◌∙◌, ◌||◌, Bool, List, ap, subst, sym}
use Rattle.std.proofs.Math.Logic.{∥∥₁_map₂}
use Rattle.ide_slot_store.specs.Runs.{AreOnRun}
use Rattle.ide_steps.specs.Core.{IsUnchanged}
use Rattle.ide_store.specs.Table.{Analysis}
use Rattle.ide_board.specs.Records.{Marked}
use Rattle.ide_desks.specs.Desks.{IsWriterDesk}
use Rattle.ide_desks.specs.Switching.{version_after}
use Rattle.ide_desks.proofs.Meeting.{met_on_run, none_failed, rest_kept}
use Rattle.ide_desks.proofs.table.TableDesk.into_engine.Given.{Over}
use Rattle.ide_desks.proofs.table.TableDesk.into_engine.Goals as goal

-- the analysis of the store
abbrev kept : (g : Over) → Analysis g.row.P-F.Denot g.row.P-L.Denot
kept g = record {
  lattice = g.P.L.Lattice.algebra;
  functions = g.P.F.EdgeFn.edge;
  targets = g.P.Problem.targets;
  same = g.P.F.PartialEq.eq;
  proper = g.P.F.Wire.proper;
  form = g.P.F.Wire.form;
}

pub returns-clause-core : goal.returns-clause-core
returns-clause-core g c =
    let rest = rest_kept c.args.self.half c.take_all_from.new.table _ _ c.take_all_from.result c.take_all_from.ensures.hands c.take_all_from.ensures.unchanged in
    subst (λ t. IsUnchanged c.args.self.half.core t) (sym (ap (λ t. t.core) c.stopped_where.ensures)) rest.0

pub returns-clause-sealed : goal.returns-clause-sealed
returns-clause-sealed g c =
    let rest = rest_kept c.args.self.half c.take_all_from.new.table _ _ c.take_all_from.result c.take_all_from.ensures.hands c.take_all_from.ensures.unchanged in
    ap (λ t. t.sealed) c.stopped_where.ensures ∙ rest.1

pub returns-clause-failed : goal.returns-clause-failed
returns-clause-failed g c =
    let rest = rest_kept c.args.self.half c.take_all_from.new.table _ _ c.take_all_from.result c.take_all_from.ensures.hands c.take_all_from.ensures.unchanged in
    ap (λ t. t.failed) c.stopped_where.ensures ∙ ap (λ (b : Bool). c.args.writer.failed || b) rest.2

pub returns-clause-run : goal.returns-clause-run
returns-clause-run g c told going none =
    let table = c.args.self in
    let writer = c.args.writer in
    let half = c.take_all_from.new.table in
    let writing = c.take_all_from.new.self in
    let rest = rest_kept table.half half _ _ c.take_all_from.result c.take_all_from.ensures.hands c.take_all_from.ensures.unchanged in
    let first = g.J.Accord.first told in
    let version = g.J.Accord.version told in
    let now = version_after version table.switch.seat.sealed in
    let both = none_failed writer.failed half.failed (sym (ap (λ t. t.failed) c.stopped_where.ensures) ∙ going) in
    ∥∥₁_map₂ (table.kept told) (writer.kept told) (λ desk writes.
    subst (λ t. AreOnRun (kept g) g.P.Problem.TAG t writing) (sym c.stopped_where.ensures)
    (subst (λ (b : Bool). AreOnRun (kept g) g.P.Problem.TAG (record half { failed = b || half.failed }) writing) (sym both.0)
    (met_on_run (kept g) g.P.Problem.TAG now first c.two_disks_are_a_store.ensures.keep c.halves_meet.ensures table.half half writer.half
    writing table.seat writer.seat table.counts writer.counts.within c.hand_over.ensures.begins c.hand_over.ensures.all c.take_all_from.ensures.journal
    c.take_all_from.ensures.commands c.take_all_from.ensures.few c.take_all_from.ensures.proper (sym rest.2 ∙ both.1)
    (sym (ap (λ t. t.waiting) c.stopped_where.ensures) ∙ none) c.take_all_from.result c.take_all_from.ensures.hands c.take_all_from.ensures.unchanged
    c.take_all_from.ensures.queue desk
    (subst (λ (b : Bool). IsWriterDesk (kept g) g.P.Problem.TAG now first writer.half writer.seat b) both.0
    (subst (λ (xs : List (Marked (Unit {0}))). IsWriterDesk (kept g) g.P.Problem.TAG (version_after version xs) first writer.half writer.seat writer.failed)
    c.agree.ensures.agreed writes)))))
