use Rattle.std.proofs.Common.{◌≡◌, ◌<◌, ◌+◌, sym, ap, subst, ◌∙◌, arith, length, refl}
use Rattle.std.proofs.lemmas.Option.{slice_get_read}
use Rattle.ide_graph.specs.Whole.{counts_of, sites_of}
use Rattle.ide_graph.proofs.StepLemmas.{passes-within}
use Rattle.ide_graph.proofs.graph.Graph.passes_by.Goals as goal

pub returns-then-from-fact_count-clause-within : goal.returns-then-from-fact_count-clause-within
returns-then-from-fact_count-clause-within c = λ is.
    let graph = c.self.inside in
    let whole = c.self.invariant in
    let nodes = length (sites_of graph) in
    let view : counts_of graph ≡ c.args.self.now = c.self.view_is in
    let node : c.args.node < nodes = subst (λ g. c.args.node < g.nodes) (sym view) c.requires in
    let counted = whole.stepped.counted in
    let stands = slice_get_read graph.steps.items (length graph.steps.items) c.args.node c.index.result.now refl (omega (arith, node, counted)) c.index.ensures in
    let facts : c.fact_count.result ≡ (counts_of graph).facts = c.fact_count.ensures.count ∙ ap (λ g. g.facts) (sym view) in
    let less = c.if-from-fact_count.true in
    let same = c.from.ensures in
    let fact : c.args.fact < (counts_of graph).facts = omega (arith, facts, less, same) in
    subst (λ g. c.args.node + 1 < g.nodes) view
    (passes-within nodes (sites_of graph) c.args.node c.args.fact whole.edges
    (whole.stepped.each c.args.node c.index.result.now stands c.args.fact fact (sym c.passes_by.ensures ∙ is)))
