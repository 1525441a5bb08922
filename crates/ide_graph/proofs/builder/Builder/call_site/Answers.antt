use Rattle.std.proofs.Common.{◌≡◌, ℕ, ◌+◌, ◌<◌, ◌^◌, get_or, take, length, sym, ap, subst, ◌∙◌, arith}
use Rattle.std.proofs.lemmas.List.{get_or_default, take_all}
use Rattle.std.proofs.lemmas.List.Elements.{All-push}
use Rattle.ide_text.specs.declared.program.Statement.TheVariants.{Call}
use Rattle.ide_graph.specs.Building.{node_count}
use Rattle.ide_graph.specs.Edges.{EndsWithin}
use Rattle.ide_graph.specs.declared.edge.EdgeKind.TheVariants as kind
use Rattle.ide_graph.specs.Numbers.{statement}
use Rattle.ide_graph.specs.ProgramEdges.{IsCall, IsCallee, edge_of}
use Rattle.ide_graph.proofs.CallSiteLemmas.{calls_listed}
use Rattle.ide_graph.proofs.ProgramLemmas.{counted, next_within}
use Rattle.ide_graph.proofs.ZipLemmas.{zip_more}
use Rattle.ide_graph.proofs.builder.Builder.call_site.Goals as goal

pub loop-callee-init : goal.loop-callee-init
loop-callee-init c = record {
  within = rw c.in_ok-calls.ensures.items (λ k d h. absurd (omega arith));
  exact = λ p is call. rw c.in_ok-calls.ensures.items tt;
}

pub loop-callee-preserved : goal.loop-callee-preserved
loop-callee-preserved c =
    let items = c.deref-callee-items.ensures.value in
    let callee : ℕ = get_or c.deref-callee-items.result.now c.loop-callee.callee-index 0 in
    let within : c.loop-callee.callee-index < length c.args.call.now.callees.items = omega (arith, c.loop-callee-test.true, ap length items) in
    let is_callee : callee ≡ get_or c.args.call.now.callees.items c.loop-callee.callee-index callee =
    ap (λ xs. get_or xs c.loop-callee.callee-index 0) items ∙ get_or_default c.args.call.now.callees.items c.loop-callee.callee-index 0 callee within in
    record {
      within = rw c.in_ok-push.ensures.items (All-push (EndsWithin (node_count c.args.self.now)) c.loop-callee.calls.items c.in_ok-call_edge.field-0 c.loop-callee.invariant.within c.in_ok-call_edge.ensures.within);
      exact = λ p is call.
          let called : IsCallee p call.at.callees.items callee =
          subst (λ n. IsCallee p call.at.callees.items n) (sym (ap (λ xs. get_or xs c.loop-callee.callee-index 0) items)) (call.callees.each c.loop-callee.callee-index 0 within) in
          let edge = c.in_ok-call_edge.ensures.exact p is call called in
          rw c.in_ok-push.ensures.items
          (zip_more (IsCall p c.args.call.now.node) c.args.call.now.callees.items c.loop-callee.calls.items c.loop-callee.callee-index callee c.in_ok-call_edge.field-0 within is_callee (c.loop-callee.invariant.exact p is call) edge);
    }

pub returns-clause-exact : goal.returns-clause-exact
returns-clause-exact c = λ p is call.
    let next : c.args.call.now.node + 1 < node_count c.args.self.now =
    omega (arith, counted p c.args.self.now is, next_within p c.args.call.now.node call.at.index call.at.procedure (statement (Call call.at.target call.at.callees call.at.arguments)) call.at.stands (λ e. cc)) in
    let few : c.args.call.now.node + 1 < 2 ^ 32 = omega (arith, c.requires.ready.numbered.few) in
    let end : c.return_site.result ≡ c.args.call.now.node + 1 = c.return_site.ensures few in
    let edge = c.edge.ensures.exact p is (rw end next) in
    let all : take c.loop-callee.callee-index c.args.call.now.callees.items ≡ c.args.call.now.callees.items =
    take_all c.loop-callee.callee-index c.args.call.now.callees.items (omega (arith, c.loop-callee-test.false, ap length c.deref-callee-items.ensures.value)) in (
      calls_listed p c.args.call.now.node call.at c.args.call.now.callees.items c.of.result call.callees
          (rw c.of.ensures (rw all at (c.loop-callee.invariant.exact p is call))),
      record {
        call = call.at;
        target = c.args.call.now.target;
        assigned = call.target;
        is = edge ∙ ap (λ n. edge_of p n (kind.CallToReturn c.args.call.now.target)) end;
      },
    )
