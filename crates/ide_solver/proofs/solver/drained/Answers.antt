use Rattle.std.proofs.Common.{Some, map, ap, subst, sym, ◌∙◌}
use Rattle.std.proofs.lemmas.Result.{err_from_is_err_and}
use Rattle.ide_graph.specs.Joined.{start_at}
use Rattle.ide_theory.specs.Sites.{edges_of}
use Rattle.ide_solver.specs.Refusal.{IsSolveRefusal, memory}
use Rattle.ide_solver.proofs.Refused.{close-refused, drain-refused}
use Rattle.ide_solver.proofs.Results.{refused-on}
use Rattle.ide_solver.proofs.Solved.{solved}
use Rattle.ide_solver.proofs.solver.drained.Goals as goal

pub returns-in-Ok-clause-leads : goal.returns-in-Ok-clause-leads
returns-in-Ok-clause-leads g c = λ text names started values program graph roots best.
    solved g.P.L.Lattice.algebra g.P.F.EdgeFn.edge g.P.Problem.targets
    (λ graph all joined. c.runs_go_on.ensures (edges_of graph.facts graph.sites all (start_at graph)) (c.sites_make_a_graph.ensures graph.facts graph.sites all (start_at graph) joined).0)
    g.met.P.F.EdgeFn.lawful.proper_id
    text (map (λ name. name.now) names) c.args.core c.drain.new.self started.0 values c.in-Ok.closed.tables.table
    started.1 c.in_ok-drain.ensures.goes c.in_ok-drain.ensures.quiet
    (c.in-Ok.ensures.program ∙ ap (λ o. Some o) (sym program)) (c.in-Ok.ensures.graph ∙ ap (λ o. Some o) (sym graph)) (roots ∙ c.in-Ok.ensures.roots) c.in-Ok.ensures.table best

pub returns-clause-refused : goal.returns-clause-refused
returns-clause-refused g c = λ text roots started.
    elim (close-refused g.P.L.Lattice.algebra g.P.F.EdgeFn.edge g.P.Problem.targets text (map (λ name. name.now) roots)
    c.args.core c.drain.new.self started.0 started.1 c.in_ok-drain.ensures.goes c.in_ok-drain.ensures.quiet
    c.in-Err.ensures.refused) [ ]

pub returns-in_err-drain-clause-refused : goal.returns-in_err-drain-clause-refused
returns-in_err-drain-clause-refused g c = λ text roots started.
    let p = err_from_is_err_and c.from_residual.result c.from_residual.ensures.1 in
    let names = map (λ name. name.now) roots in
    let refused = c.in_err-drain.field-0.0 in
    let wanting = drain-refused g.P.L.Lattice.algebra g.P.F.EdgeFn.edge g.P.Problem.targets text names
    c.args.core started.0 started.1 c.in_err-drain.ensures.refused in
    refused-on (IsSolveRefusal text names) c.from_residual.result refused p.0 p.1 p.2
    (subst (IsSolveRefusal text names) (sym wanting) memory)
