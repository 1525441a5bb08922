use Rattle.std.proofs.Common.{suc, ◌∷◌, drop, map, take, sym, subst}
use Rattle.std.proofs.lemmas.Result.{err_from_is_err_and}
use Rattle.ide_graph.specs.Joined.{start_at}
use Rattle.ide_theory.specs.Sites.{edges_of}
use Rattle.ide_solver.specs.Begun.{AreBegun}
use Rattle.ide_solver.specs.Refusal.{IsRootsRefusal}
use Rattle.ide_solver.proofs.Begun.{begun-more, begun-none, names-with}
use Rattle.ide_solver.proofs.Refused.{names-around, refused-later, root-refused}
use Rattle.ide_solver.proofs.Results.{refused-on}
use Rattle.ide_solver.proofs.solver.begin_roots.Goals as goal

pub loop-name-init : goal.loop-name-init
loop-name-init g c = begun-none g.P.L.Lattice.algebra g.P.F.EdgeFn.edge g.P.Problem.targets c.args.core.now

pub loop-name-preserved : goal.loop-name-preserved
loop-name-preserved g c =
    let A = g.P.L.Lattice.algebra in
    let B = g.P.F.EdgeFn.edge in
    let targets = g.P.Problem.targets in
    let old = c.args.core.now in
    let new = c.root.new.self in
    subst (AreBegun A B targets old new) (sym (names-with (λ name. name.now) c.args.names.now c.loop-name.name-index _ c.loop-name-test.true))
    (begun-more A B targets
    (λ graph all joined. c.runs_go_on.ensures (edges_of graph.facts graph.sites all (start_at graph)) (c.sites_make_a_graph.ensures graph.facts graph.sites all (start_at graph) joined).0)
    g.met.P.F.EdgeFn.lawful.proper_id
    old c.loop-name.core new (map (λ name. name.now) (take c.loop-name.name-index c.args.names.now)) _ c.loop-name.invariant c.in_ok-root.ensures.begun)

pub returns-in_err-root-clause-refused : goal.returns-in_err-root-clause-refused
returns-in_err-root-clause-refused g c =
    let A = g.P.L.Lattice.algebra in
    let B = g.P.F.EdgeFn.edge in
    let targets = g.P.Problem.targets in
    let old = c.args.core.now in
    let mid = c.loop-name.core in
    let index = c.loop-name.name-index in
    let names = c.args.names.now in
    let refused = c.in_err-root.field-0.0 in
    let is = c.in_err-root.ensures in
    let p = err_from_is_err_and c.from_residual.result c.from_residual.ensures.1 in
    refused-on (IsRootsRefusal old.graph old.roots (map (λ name. name.now) names)) c.from_residual.result refused p.0 p.1 p.2
    (subst (λ ns. IsRootsRefusal old.graph old.roots ns refused) (sym (names-around (λ name. name.now) names index _ c.loop-name-test.true))
    (refused-later A B targets old mid (map (λ name. name.now) (take index names)) (_ ∷ map (λ name. name.now) (drop (suc index) names)) c.loop-name.invariant
    (root-refused mid.graph mid.roots _ (map (λ name. name.now) (drop (suc index) names)) is.refused)))
