use Rattle.std.proofs.Common.{arith, subst}
use Rattle.std.proofs.lemmas.Result.{err_from_is_err_and}
use Rattle.ide_steps.proofs.States.{handed-on}
use Rattle.ide_journal.specs.Lists.{entries_of}
use Rattle.ide_store.specs.Opening.{GoesOnFrom, IsOpenStop, fold_stops, too_many}
use Rattle.ide_store.specs.Table.{Analysis, TableData}
use Rattle.ide_store.proofs.Begins.{begun_table, is_half_over}
use Rattle.ide_store.proofs.table.TableHalf.open.Goals as goal

pub returns-then-sealed-gt-MOST_RECORDS-clause-refused : goal.returns-then-sealed-gt-MOST_RECORDS-clause-refused
returns-then-sealed-gt-MOST_RECORDS-clause-refused g c =
    let more = c.if-sealed-gt-MOST_RECORDS.true in
    too_many (omega (arith, more))

pub returns-in_err-apply_all-clause-refused : goal.returns-in_err-apply_all-clause-refused
returns-in_err-apply_all-clause-refused g c =
    let p = err_from_is_err_and c.from_residual.result c.from_residual.ensures.1 in
    handed-on (IsOpenStop _ c.args.version (entries_of c.args.records.now) c.args.sealed) c.from_residual.result c.in_err-apply_all.field-0.0 p.0 p.1 p.2
    (fold_stops c.new-core.result c.apply_all.new.core
    (c.new_cores_are_empty.ensures c.new-core.result c.new-core.ensures.program c.new-core.ensures.graph c.new-core.ensures.roots c.new-core.ensures.entries c.new-core.ensures.pending)
    c.in_err-apply_all.ensures.refused)

pub invariant_of-result : goal.invariant_of-result
invariant_of-result g c =
    let few = c.if-sealed-gt-MOST_RECORDS.false in
    begun_table c.apply_all.new.core c.take_changes.new.self c.take_changes.ensures.stays c.new.result.items c.new.ensures.items c.args.sealed (omega (arith, few))

pub returns-clause-opened : goal.returns-clause-opened
returns-clause-opened g c =
    let a : Analysis g.row.P-F.Denot g.row.P-L.Denot = record {
      lattice = g.P.L.Lattice.algebra;
      functions = g.P.F.EdgeFn.edge;
      targets = g.P.Problem.targets;
      same = g.P.F.PartialEq.eq;
      proper = g.P.F.Wire.proper;
      form = g.P.F.Wire.form;
    } in
    let found = entries_of c.args.records.now in
    subst (λ (table : TableData g.row.P-F.Denot). GoesOnFrom a found table)
    (is_half_over c.apply_all.new.core c.take_changes.new.self c.take_changes.ensures.stays c.new.result.items c.new.ensures.items c.args.sealed c.args.version)
    ((c.halves_begin.ensures.goes_on c.new-core.result c.apply_all.new.core c.args.version found c.args.sealed
    (c.new_cores_are_empty.ensures c.new-core.result c.new-core.ensures.program c.new-core.ensures.graph c.new-core.ensures.roots c.new-core.ensures.entries c.new-core.ensures.pending)
    c.in_ok-apply_all.ensures.leads c.apply_all.ensures.free).1)

pub returns-clause-folds : goal.returns-clause-folds
returns-clause-folds g c =
    (c.halves_begin.ensures.goes_on c.new-core.result c.apply_all.new.core c.args.version (entries_of c.args.records.now) c.args.sealed
    (c.new_cores_are_empty.ensures c.new-core.result c.new-core.ensures.program c.new-core.ensures.graph c.new-core.ensures.roots c.new-core.ensures.entries c.new-core.ensures.pending)
    c.in_ok-apply_all.ensures.leads c.apply_all.ensures.free).0
