use Rattle.std.proofs.Common.{◌≡◌, ◌<◌, ◌∷◌, [], ◌∙◌, arith}
use Rattle.ide_graph.specs.Building.{node_count}
use Rattle.ide_graph.specs.declared.edge.EdgeKind.TheVariants as kind
use Rattle.ide_graph.specs.declared.edge.Effect.TheVariants.{Nothing}
use Rattle.ide_graph.specs.ProgramEdges.{edge_of}
use Rattle.ide_graph.proofs.ListsLemmas.{two_pushed}
use Rattle.ide_graph.proofs.SiteLemmas.{lesser_first}
use Rattle.ide_graph.proofs.builder.Builder.branch.Goals as goal

pub returns-clause-exact : goal.returns-clause-exact
returns-clause-exact c = λ p is next label.
    let low : c.min.result < node_count c.args.self.now = omega arith in
    let high : c.max.result < node_count c.args.self.now = omega arith in
    let first = c.edge.ensures.exact p is low in
    let second = c.edge-2.ensures.exact p is high in
    let items : c.push-2.new.self.items ≡ edge_of p c.min.result (kind.Normal Nothing) ∷ edge_of p c.max.result (kind.Normal Nothing) ∷ [] =
    two_pushed c.in_ok-edges.edges.items c.push.new.self.items c.push-2.new.self.items c.edge.result c.edge-2.result _ _
    c.in_ok-edges.ensures.items c.in_ok-push.ensures.items c.in_ok-push-2.ensures.items first second in
    lesser_first p c.args.next c.args.label c.min.result c.max.result c.if-next-label.false c.min.ensures c.max.ensures c.of.result (c.of.ensures ∙ items)
