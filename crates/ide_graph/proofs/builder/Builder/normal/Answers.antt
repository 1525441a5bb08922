use Rattle.std.proofs.Common.{◌≡◌, [], ◌∷◌, refl, ap, ◌∙◌}
use Rattle.ide_graph.specs.declared.edge.EdgeData.{EdgeData}
use Rattle.ide_graph.specs.declared.edge.EdgeKind.TheVariants as kind
use Rattle.ide_graph.specs.ProgramEdges.{edge_of}
use Rattle.ide_graph.proofs.ListsLemmas.{lists_one}
use Rattle.ide_graph.proofs.builder.Builder.normal.Goals as goal

pub returns-clause-exact : goal.returns-clause-exact
returns-clause-exact c = λ p is within.
    let edge : EdgeData = edge_of p c.args.end (kind.Normal c.args.effect) in
    let made : c.edge.result ≡ edge = c.edge.ensures.exact p is within in
    let items : c.one.result ≡ edge ∷ [] = c.one.ensures ∙ ap (λ (e : EdgeData). e ∷ []) made in
    rw items (lists_one (λ x. x.end) (λ x. x ≡ edge) edge refl (λ x e. e))
