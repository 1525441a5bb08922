use Rattle.std.proofs.Common.{subst, sym}
use Rattle.std.specs.Option.{option_to_list}
use Rattle.ide_graph.specs.Building.{AllHaveFacts}
use Rattle.ide_graph.specs.Lists.{Lists}
use Rattle.ide_graph.specs.ProgramEdges.{IsTargetFact, IsCallee}
use Rattle.ide_graph.proofs.CallLemmas.{targets_known}
use Rattle.ide_graph.proofs.builder.Builder.call.Goals as goal

pub returns-clause-exact : goal.returns-clause-exact
returns-clause-exact c = λ p is at scope target callees arguments.
    let known : AllHaveFacts p at.procedure (option_to_list c.args.target.now) =
    subst (λ t. AllHaveFacts p at.procedure (option_to_list t)) (sym target) (targets_known p c.args.node at) in
    record {
      at = at;
      scope = scope;
      target = subst (λ t. IsTargetFact p at.procedure t c.assigned.result) target (c.assigned.ensures p at.index at.procedure scope known);
      callees = subst (λ names. Lists (IsCallee p names) (λ callee. callee) c.in_ok-callees.field-0.items) callees (c.in_ok-callees.ensures.exact p is);
      arguments = arguments;
    }
