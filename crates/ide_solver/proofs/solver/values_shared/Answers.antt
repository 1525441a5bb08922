use Rattle.std.proofs.Common.{map}
use Rattle.std.proofs.lemmas.Result.{IfErr-weaker, err_from_is_err_and}
use Rattle.ide_solver.specs.Refusal.{IsSharedRefusal, not_shared, not_solved}
use Rattle.ide_solver.proofs.Results.{refused-on, if-ok}
use Rattle.ide_solver.proofs.solver.values_shared.Goals as goal

pub returns-in_err-check_workers-clause-refused : goal.returns-in_err-check_workers-clause-refused
returns-in_err-check_workers-clause-refused g c =
    let p = err_from_is_err_and c.from_residual.result c.from_residual.ensures.1 in
    refused-on (IsSharedRefusal c.args.workers c.args.text.now (map (λ name. name.now) c.args.roots.now)) c.from_residual.result c.in_err-check_workers.field-0.0 p.0 p.1 p.2
    (not_shared c.in_err-check_workers.ensures.refused)

pub returns-in_err-closed-clause-refused : goal.returns-in_err-closed-clause-refused
returns-in_err-closed-clause-refused g c =
    let p = err_from_is_err_and c.from_residual-in_err-closed.result c.from_residual-in_err-closed.ensures.1 in
    refused-on (IsSharedRefusal c.args.workers c.args.text.now (map (λ name. name.now) c.args.roots.now)) c.from_residual-in_err-closed.result c.in_err-closed.field-0.0 p.0 p.1 p.2
    (not_solved c.in_ok-check_workers.ensures.workers c.in_err-closed.ensures.refused)

pub returns-clause-solved : goal.returns-clause-solved
returns-clause-solved g c =
    let values = c.values in
    if-ok values.result values.ensures.program values.ensures.graph values.ensures.roots values.ensures.best c.in_ok-closed.ensures.leads

pub returns-clause-refused : goal.returns-clause-refused
returns-clause-refused g c =
    IfErr-weaker c.values.result _ _ (λ refused is. not_shared is) c.values.ensures.refused
