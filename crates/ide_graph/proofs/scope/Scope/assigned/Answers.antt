use Rattle.std.proofs.Common.{◌≡◌, Some, refl, sym, ap, subst, arith}
use Rattle.std.specs.Option.{option_to_list}
use Rattle.ide_graph.specs.Building.{AllHaveFacts}
use Rattle.ide_graph.specs.ProgramEdges.{IsTargetFact}
use Rattle.ide_graph.proofs.scope.Scope.assigned.Goals as goal

pub returns : goal.returns
returns c = λ p index q scope all.
    let is : Some c.in_ok-name.name.now ≡ c.args.target.now = c.in_ok-name.ensures.value in
    let known = subst (λ t. AllHaveFacts p q (option_to_list t)) (sym is) all in
    let fact = known c.in_ok-name.name.now (0, omega arith, refl) in
    subst (λ t. IsTargetFact p q t (Some c.fact.result)) is (fact.0, fact.1, ap (λ f. Some f) (c.fact.ensures p index q fact.0 scope fact.1))
