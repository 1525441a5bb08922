use Rattle.std.proofs.Common.{ap, subst}
use Rattle.std.proofs.lemmas.Result.{IfErr-weaker, err_from_is_err_and}
use Rattle.std.specs.Option.{is_some}
use Rattle.ide_steps.specs.Room.{IsWholeCore}
use Rattle.ide_service.specs.Served.{IsAnswerRefusal, no_values, not_frozen}
use Rattle.ide_solver.proofs.Results.{refused-on}
use Rattle.ide_service.proofs.Served.{answers_over}
use Rattle.ide_store.specs.Table.{Analysis}
use Rattle.ide_service.proofs.answers.values_of_table.Given.{Over}
use Rattle.ide_service.proofs.answers.values_of_table.Goals as goal

-- the analysis of the store
abbrev kept : (g : Over) → Analysis g.row.P-F.Denot g.row.P-L.Denot
kept g = record {
  lattice = g.P.L.Lattice.algebra;
  functions = g.P.F.EdgeFn.edge;
  targets = g.P.Problem.targets;
  same = g.P.F.PartialEq.eq;
  proper = g.P.F.Wire.proper;
  form = g.P.F.Wire.form;
}

pub returns-clause-best : goal.returns-clause-best
returns-clause-best g c =
    let frozen = c.in_ok-closed.ensures in
    answers_over (kept g) c.args.table.now c.in_ok-closed.closed (subst IsWholeCore c.core.ensures c.cores_are_whole.ensures) frozen.graph
    c.values_of_runs_are_best.ensures c.values.result frozen.frozen c.values.ensures.program c.values.ensures.graph c.values.ensures.roots c.values.ensures.best

pub returns-in_err-closed-clause-refused : goal.returns-in_err-closed-clause-refused
returns-in_err-closed-clause-refused g c =
    let p = err_from_is_err_and c.from_residual.result c.from_residual.ensures.1 in
    refused-on (IsAnswerRefusal c.args.table.now c.args.workers) c.from_residual.result c.in_err-closed.field-0.0 p.0 p.1 p.2
    (not_frozen c.in_err-closed.ensures.refused)

pub returns-clause-refused : goal.returns-clause-refused
returns-clause-refused g c =
    let frozen = c.in_ok-closed.ensures in
    IfErr-weaker c.values.result _ _
    (λ refused why. no_values (record { working = frozen.working; loaded = ap is_some frozen.graph; quiet = frozen.quiet }) why)
    c.values.ensures.refused
