use Rattle.std.proofs.lemmas.Result.{IfOk-weaker}
use Rattle.ide_graph.specs.Joined.{start_at}
use Rattle.ide_values.proofs.Follows.{rows_follow}
use Rattle.ide_values.proofs.values.leading_starts.Goals as goal

pub returns-clause-lead : goal.returns-clause-lead
returns-clause-lead g c =
    IfOk-weaker c.start_values.result _ _
    (λ starts are rows.
    rows_follow g.P.L.Lattice.algebra g.met.P.L.Lattice.lawful g.P.F.EdgeFn.edge g.met.P.F.EdgeFn.lawful g.P.Problem.targets g.met.P.Problem.lawful
    c.args.graph.now c.args.tables.now.table c.args.roots.now
    (λ all joined. (c.sites_make_a_graph.ensures c.args.graph.now.facts c.args.graph.now.sites all (start_at c.args.graph.now) joined).1)
    starts.items rows are)
    c.start_values.ensures
