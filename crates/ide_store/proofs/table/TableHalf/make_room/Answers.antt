use Rattle.std.proofs.Common.{◌≡◌, true, ap, arith, rules}
use Rattle.std.proofs.lemmas.Result.{err_from_is_err_and}
use Rattle.ide_steps.proofs.States.{handed-on}
use Rattle.ide_image.specs.Notes.{noted_count}
use Rattle.ide_store.specs.Draining.{IsWorkStop, full_batch_is_left, full_batch_stays}
use Rattle.ide_store.specs.Table.{Analysis, TableData}
use Rattle.ide_store.proofs.Drained.{anew_core, equal_core, stop_stays}
use Rattle.ide_store.proofs.table.TableHalf.make_room.Given.{Over}
use Rattle.ide_store.proofs.table.TableHalf.make_room.Goals as goal

-- the analysis of the store
abbrev kept : (g : Over) → Analysis g.row.P-F.Denot g.row.P-L.Denot
kept g = record {
  lattice = g.P.L.Lattice.algebra;
  functions = g.P.F.EdgeFn.edge;
  targets = g.P.Problem.targets;
  same = g.P.F.PartialEq.eq;
  proper = g.P.F.Wire.proper;
  form = g.P.F.Wire.form;
}

pub returns-clause-room : goal.returns-clause-room
returns-clause-room g c =
    let none = ap (λ core. noted_count core.changes) c.in_ok-seal_changes.ensures.anew in
    omega (arith, none)

pub returns-clause-core : goal.returns-clause-core
returns-clause-core g c = anew_core c.args.self.now.core c.seal_changes.new.self.core c.in_ok-seal_changes.ensures.anew

pub returns-then-not-seals-clause-refused : goal.returns-then-not-seals-clause-refused
returns-then-not-seals-clause-refused g c =
    let most = c.if-changed_count-lt-MOST_CHANGED.false in
    let count = c.changed_count.ensures in
    let here = ap (λ (table : TableData g.row.P-F.Denot). noted_count table.core.changes) c.self.view_is in
    full_batch_is_left (search rules) (omega (arith, most, count, here))

pub returns-in_err-seal_changes-clause-core : goal.returns-in_err-seal_changes-clause-core
returns-in_err-seal_changes-clause-core g c = equal_core c.args.self.now.core c.seal_changes.new.self.core c.in_err-seal_changes.ensures.unchanged.0

pub returns-in_err-seal_changes-clause-refused : goal.returns-in_err-seal_changes-clause-refused
returns-in_err-seal_changes-clause-refused g c =
    let p = err_from_is_err_and c.from_residual.result c.from_residual.ensures.1 in
    let old = c.args.self.now in
    let new = c.seal_changes.new.self in
    let same = c.in_err-seal_changes.ensures.unchanged in
    let most = c.if-changed_count-lt-MOST_CHANGED.false in
    let count = c.changed_count.ensures in
    let here = ap (λ (table : TableData g.row.P-F.Denot). noted_count table.core.changes) c.self.view_is in
    let seals : c.args.seals ≡ true = search rules in
    handed-on (IsWorkStop _ _ new) c.from_residual.result c.in_err-seal_changes.field-0.0 p.0 p.1 p.2
    (stop_stays _ _ old new _ (ap (λ core. core.table) same.0) (ap (λ core. core.changes) same.0) same.1.sealed
    (full_batch_stays seals (omega (arith, most, count, here)) c.in_err-seal_changes.ensures.refused))
