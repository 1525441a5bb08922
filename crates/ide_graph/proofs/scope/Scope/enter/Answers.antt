use Rattle.std.proofs.Common.{◌≡◌, ◌+◌, ◌≤◌, length, ap, ◌∙◌, arith}
use Rattle.std.proofs.lemmas.List.{length-append}
use Rattle.ide_text.specs.Program.{globals_of}
use Rattle.ide_graph.specs.Numbers.{result_of, facts_of}
use Rattle.ide_graph.proofs.FactLemmas.{own_within}
use Rattle.ide_graph.proofs.scope.Scope.enter.Goals as goal

pub returns : goal.returns
returns c = λ p index q scope.
    let globals : length c.args.self.globals.now.names ≡ length (globals_of p) = ap length scope.globals in
    let own : length c.args.self.layout.now.own ≡ length q.parameters.items + length q.locals.items = ap length scope.layout.own ∙ length-append q.parameters.items q.locals.items in
    let few : length (globals_of p) + 2 + length q.parameters.items + length q.locals.items ≤ facts_of p = own_within p index q scope.owner in
    let first : c.own_fact.result ≡ result_of p + 1 + length q.parameters.items = omega (arith, scope.few, scope.layout.parameters) in
    let end : c.own_fact-2.result ≡ result_of p + 1 + length q.parameters.items + length q.locals.items = omega (arith, scope.few) in
    cc
