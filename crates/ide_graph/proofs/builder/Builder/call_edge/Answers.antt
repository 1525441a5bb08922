use Rattle.std.proofs.Common.{◌≡◌, ℕ, ◌+◌, ◌<◌, ◌≤◌, List, Some, length, sym, subst, refl, take, ap, ◌∙◌, arith}
use Rattle.std.specs.Prelude.{slice_get}
use Rattle.std.specs.List.{Contains}
use Rattle.std.proofs.lemmas.List.{take_all}
use Rattle.std.proofs.lemmas.Option.{slice_get_read}
use Rattle.ide_text.specs.Program.{globals_of}
use Rattle.ide_graph.specs.Building.{node_count}
use Rattle.ide_graph.specs.Numbers.{facts_of, result_of}
use Rattle.ide_graph.proofs.CallLemmas.{arguments_counted, arguments_known, layout_at, passed_more, passed_none, procedure_at}
use Rattle.ide_graph.proofs.FactLemmas.{own_within}
use Rattle.ide_graph.proofs.ProgramLemmas.{counted, start_within}
use Rattle.ide_graph.proofs.builder.Builder.call_edge.Goals.{then-index-layout+in_ok-push, else-index-layout}
use Rattle.ide_graph.proofs.builder.Builder.call_edge.Goals as goal

pub loop-index-init : goal.loop-index-init
loop-index-init c = λ p is call called. rw c.in_ok-passed.ensures.items (passed_none p call.at.procedure)

pub loop-index-preserved : goal.loop-index-preserved
loop-index-preserved c = λ p is call called.
    let q = procedure_at p c.args.self.now is c.args.callee c.requires.callee in
    let at : slice_get c.args.self.now.numbering.now.layouts.items c.args.callee ≡ Some c.index-layout.result.now =
    slice_get_read c.args.self.now.numbering.now.layouts.items (length c.args.self.now.numbering.now.layouts.items) c.args.callee c.index-layout.result.now refl c.requires.callee c.index-layout.ensures in
    let layout = layout_at p c.args.self.now is c.args.callee q.0 c.index-layout.result.now q.1 at in
    let count : length q.0.parameters.items ≡ length call.at.arguments.items = arguments_counted p c.args.call.now.node call.at c.args.callee q.0 called q.1 in
    let passed : length c.args.call.now.arguments.now ≡ length call.at.arguments.items = ap length call.arguments in
    elim c.if-index-layout.branch [
      | then-index-layout+in_ok-push w ↦
          let contains : Contains call.at.arguments.items c.argument-item.result =
          subst (λ (xs : List (List ℕ)). Contains xs c.argument-item.result) call.arguments (c.loop-index.index, c.loop-index-test.true, sym c.argument-item.is) in
          let fact = arguments_known p c.args.call.now.node call.at c.argument-item.result contains in
          let argument : w.fact.result ≡ fact.0 = w.fact.ensures p call.at.index call.at.procedure fact.0 call.scope fact.1 in
          let globals : length c.args.self.now.globals.now.names ≡ length (globals_of p) = ap length is.globals in
          let own : length (globals_of p) + 2 + length q.0.parameters.items + length q.0.locals.items ≤ facts_of p = own_within p c.args.callee q.0 q.1 in
          let parameter : w.own_fact.result ≡ result_of p + 1 + c.loop-index.index = omega (arith, is.few, c.loop-index-test.true) in
          rw (w.passed-is, w.in_ok-push.ensures.items, argument, parameter)
          (passed_more p call.at.procedure c.args.call.now.arguments.now c.loop-index.passed.items c.argument-item.result fact.0 c.loop-index.index c.loop-index-test.true c.argument-item.is (c.loop-index.invariant p is call called) fact.1)
      | else-index-layout w ↦ absurd (omega (arith, layout.1.parameters, w.if-index-layout.false, c.loop-index-test.true))
    ]

pub returns-clause-exact : goal.returns-clause-exact
returns-clause-exact c = λ p is call called.
    let q = procedure_at p c.args.self.now is c.args.callee c.requires.callee in
    let at : slice_get c.args.self.now.numbering.now.layouts.items c.args.callee ≡ Some c.index-layout.result.now =
    slice_get_read c.args.self.now.numbering.now.layouts.items (length c.args.self.now.numbering.now.layouts.items) c.args.callee c.index-layout.result.now refl c.requires.callee c.index-layout.ensures in
    let layout = layout_at p c.args.self.now is c.args.callee q.0 c.index-layout.result.now q.1 at in
    let all : take c.loop-index.index c.args.call.now.arguments.now ≡ call.at.arguments.items = take_all c.loop-index.index c.args.call.now.arguments.now c.loop-index-test.false ∙ call.arguments in
    let start : c.index-layout.result.now.start < node_count c.args.self.now = omega (arith, layout.1.start, start_within p c.args.callee q.0 q.1, counted p c.args.self.now is) in
    record {
      call = call.at;
      called = called;
      pairs = c.loop-index.passed.items;
      passed = rw all at (c.loop-index.invariant p is call called);
      is = c.edge.ensures.exact p is start ∙ rw (layout.1.start, c.of.ensures) refl;
    }
