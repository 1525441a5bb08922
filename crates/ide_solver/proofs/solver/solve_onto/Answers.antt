use Rattle.std.proofs.Common.{map, refl}
use Rattle.std.proofs.lemmas.Result.{IfErr-weaker, IfOk-weaker, err_from_is_err_and}
use Rattle.ide_solver.specs.Refusal.{IsSharedRefusal, not_shared, not_solved}
use Rattle.ide_values.specs.Dump.{dump_of}
use Rattle.ide_values.specs.Values.{value_there}
use Rattle.ide_solver.proofs.Results.{refused-on}
use Rattle.ide_solver.proofs.solver.solve_onto.Goals as goal

pub returns-in_err-check_workers-clause-refused : goal.returns-in_err-check_workers-clause-refused
returns-in_err-check_workers-clause-refused g c =
    let p = err_from_is_err_and c.from_residual.result c.from_residual.ensures.1 in
    refused-on (IsSharedRefusal c.args.workers c.args.text.items (map (λ name. name.now) c.args.roots.now)) c.from_residual.result c.in_err-check_workers.field-0.0 p.0 p.1 p.2
    (not_shared c.in_err-check_workers.ensures.refused)

pub returns-in_err-closed-clause-refused : goal.returns-in_err-closed-clause-refused
returns-in_err-closed-clause-refused g c =
    let p = err_from_is_err_and c.from_residual-in_err-closed.result c.from_residual-in_err-closed.ensures.1 in
    refused-on (IsSharedRefusal c.args.workers c.args.text.items (map (λ name. name.now) c.args.roots.now)) c.from_residual-in_err-closed.result c.in_err-closed.field-0.0 p.0 p.1 p.2
    (not_solved c.in_ok-check_workers.ensures.workers
    (c.in_err-closed.ensures.refused c.args.text.items c.args.roots.now c.in_ok-core.ensures.started))

pub returns-in_err-core-clause-refused : goal.returns-in_err-core-clause-refused
returns-in_err-core-clause-refused g c =
    let names = map (λ name. name.now) c.args.roots.now in
    let p = err_from_is_err_and c.from_residual-in_err-core.result c.from_residual-in_err-core.ensures.1 in
    refused-on (IsSharedRefusal c.args.workers c.args.text.items names) c.from_residual-in_err-core.result c.in_err-core.field-0.0 p.0 p.1 p.2
    (not_solved c.in_ok-check_workers.ensures.workers c.in_err-core.ensures.refused)

pub returns-clause-solution : goal.returns-clause-solution
returns-clause-solution g c =
    IfOk-weaker c.write_values.result _ _
    (λ end written.
    let values = written.values in
    let is = c.in_ok-closed.ensures.leads c.args.text.items c.args.roots.now c.in_ok-core.ensures.started values written.program written.graph written.roots written.best in
    let value = value_there g.P.L.Lattice.algebra values in
    record {
      dump = dump_of values.graph (λ n d. g.P.L.Lattice.shown (value n d));
      solution = record {
        graph = values.graph;
        spelled = is.spelled;
        roots = values.roots;
        named = is.named;
        all = is.all;
        best = record { value = value; best = is.best; lines = refl };
      };
      written = written.written;
    })
    c.write_values.ensures.written

pub returns-clause-refused : goal.returns-clause-refused
returns-clause-refused g c =
    IfErr-weaker c.write_values.result _ _ (λ refused is. not_shared is) c.write_values.ensures.refused
