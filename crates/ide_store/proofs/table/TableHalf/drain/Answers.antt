use Rattle.std.proofs.Common.{true, arith}
use Rattle.std.proofs.lemmas.Result.{err_from_is_err_and}
use Rattle.ide_steps.proofs.States.{handed-on}
use Rattle.ide_store.specs.Draining.{IsDrainStop}
use Rattle.ide_store.specs.Table.{Analysis}
use Rattle.ide_store.specs.TableCalls.{IsRefusal}
use Rattle.ide_store.proofs.Drained.{drain_names, drain_stop, not_begun, works_still}
use Rattle.ide_store.proofs.table.TableHalf.drain.Given.{Over}
use Rattle.ide_store.proofs.table.TableHalf.drain.Goals as goal

-- the analysis of the store
abbrev kept : (g : Over) → Analysis g.row.P-F.Denot g.row.P-L.Denot
kept g = record {
  lattice = g.P.L.Lattice.algebra;
  functions = g.P.F.EdgeFn.edge;
  targets = g.P.Problem.targets;
  same = g.P.F.PartialEq.eq;
  proper = g.P.F.Wire.proper;
  form = g.P.F.Wire.form;
}

pub returns-in_err-may_drain-clause-refused : goal.returns-in_err-may_drain-clause-refused
returns-in_err-may_drain-clause-refused g c =
    let p = err_from_is_err_and c.from_residual.result c.from_residual.ensures.1 in
    let old = c.args.self.now in
    handed-on (IsRefusal old (IsDrainStop _ true old old)) c.from_residual.result c.in_err-may_drain.field-0.0 p.0 p.1 p.2
    (not_begun (kept g) true old c.in_err-may_drain.field-0.0 c.in_err-may_drain.ensures.refused)

pub returns-in_err-may_drain-clause-stops : goal.returns-in_err-may_drain-clause-stops
returns-in_err-may_drain-clause-stops g c = (0, 0, omega arith, works_still (kept g) _ _ (λ place w handed reached on. on))

pub returns-clause-refused : goal.returns-clause-refused
returns-clause-refused g c =
    drain_stop (kept g) true c.run_all.result c.args.self.now c.run_all.new.self c.run_all.new.self c.in_ok-may_drain.ensures.working c.in_ok-may_drain.ensures.may
    (λ e stop. stop) c.run_all.ensures.refused

pub returns-clause-unchanged : goal.returns-clause-unchanged
returns-clause-unchanged g c = drain_names _ true _ c.run_all.result c.run_all.new.self c.run_all.ensures.refused
