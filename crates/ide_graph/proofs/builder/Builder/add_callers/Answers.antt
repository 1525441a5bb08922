use Rattle.std.proofs.Common.{◌≡◌, ℕ, ◌+◌, ◌<◌, ◌^◌, ◌++◌, ◌∷◌, [], Some, get_or, take, length, refl, sym, ap, subst, ◌∙◌, arith}
use Rattle.std.specs.Prelude.{slice_get}
use Rattle.std.specs.Global.{Vec}
use Rattle.std.specs.List.{All}
use Rattle.std.proofs.lemmas.List.{get_or_default, length-set, take_all}
use Rattle.std.proofs.lemmas.List.Elements.{All-push, All-set}
use Rattle.std.proofs.lemmas.Option.{slice_get_read}
use Rattle.ide_text.specs.declared.program.Statement.TheVariants.{Call}
use Rattle.ide_graph.specs.Building.{node_count}
use Rattle.ide_graph.specs.Edges.{IsCallerWithin}
use Rattle.ide_graph.specs.declared.edge.EdgeKind.TheVariants as kind
use Rattle.ide_graph.specs.declared.site.Caller.{Caller}
use Rattle.ide_graph.specs.Numbers.{statement}
use Rattle.ide_graph.specs.ProgramEdges.{IsCallee, IsCallerOf, edge_of}
use Rattle.ide_graph.proofs.CallerLemmas.{amid_all, amid_more, amid_none}
use Rattle.ide_graph.proofs.ProgramLemmas.{counted, next_within}
use Rattle.ide_graph.proofs.builder.Builder.add_callers.Goals as goal

pub loop-callee-init : goal.loop-callee-init
loop-callee-init c = record {
  lists = c.requires.callers;
  exact = λ p is call before. amid_none p c.args.call.now.node c.args.callers.now.items before;
}

pub loop-callee-preserved : goal.loop-callee-preserved
loop-callee-preserved c =
    let items = c.deref-callee-items.ensures.value in
    let node : ℕ = c.args.call.now.node in
    let lists = c.loop-callee.callers.items in
    let k : ℕ = c.loop-callee.callee-index in
    let callee : ℕ = get_or c.deref-callee-items.result.now k 0 in
    let caller : Caller = record { call_node = node; call = c.in_ok-call_edge.field-0; back = c.edge.result } in
    let in_callees : k < length c.args.call.now.callees.items = omega (arith, c.loop-callee-test.true, ap length items) in
    let is_callee : callee ≡ get_or c.args.call.now.callees.items k callee = ap (λ xs. get_or xs k 0) items ∙ get_or_default c.args.call.now.callees.items k 0 callee in_callees in
    let below = c.requires.callees k 0 in_callees in
    let in_lists : callee < length lists = omega (arith, ap (λ xs. get_or xs k 0) items, below, c.loop-callee.invariant.lists.whole) in
    let old : slice_get lists callee ≡ Some c.index_mut.result.now = slice_get_read lists (length lists) callee c.index_mut.result.now refl in_lists c.index_mut.ensures.value in
    let pushed : c.push.new.self.items ≡ c.index_mut.result.now.items ++ caller ∷ [] = c.in_ok-push.ensures.items in
    let n : ℕ = node_count c.args.self.now in
    let within_old : All (IsCallerWithin n) c.index_mut.result.now.items =
    subst (λ (v : Vec Caller). All (IsCallerWithin n) v.items) (sym c.index_mut.ensures.value) (c.loop-callee.invariant.lists.within callee c.index_mut.result.now in_lists) in
    let within_new : All (IsCallerWithin n) c.push.new.self.items =
    rw pushed (All-push (IsCallerWithin n) c.index_mut.result.now.items caller within_old (c.requires.node, c.in_ok-call_edge.ensures.within, c.edge.ensures.within)) in
    record {
      lists = record {
        whole = length-set lists callee c.push.new.self ∙ c.loop-callee.invariant.lists.whole;
        within = All-set (λ (calls : Vec Caller). All (IsCallerWithin n) calls.items) lists callee c.push.new.self within_new c.loop-callee.invariant.lists.within;
      };
      exact = λ p is call before.
          let called : IsCallee p call.at.callees.items callee =
          subst (λ n. IsCallee p call.at.callees.items n) (sym (ap (λ xs. get_or xs k 0) items)) (call.callees.each k 0 in_callees) in
          let next : node + 1 < node_count c.args.self.now =
          omega (arith, counted p c.args.self.now is, next_within p node call.at.index call.at.procedure (statement (Call call.at.target call.at.callees call.at.arguments)) call.at.stands (λ e. cc)) in
          let few : node + 1 < 2 ^ 32 = omega (arith, c.requires.ready.numbered.few) in
          let end : c.return_site.result ≡ node + 1 = c.return_site.ensures few in
          let of : IsCallerOf p callee caller = (
            c.in_ok-call_edge.ensures.exact p is call called,
            record {
              call = call.at;
              called = called;
              target = c.args.call.now.target;
              assigned = call.target;
              is = c.edge.ensures.exact p is (rw end next) ∙ ap (λ n. edge_of p n (kind.Return c.args.call.now.target)) end;
            },
          ) in
          amid_more p node call.at c.args.call.now.callees.items call.callees lists k callee c.index_mut.result.now c.push.new.self caller in_callees is_callee old pushed refl of (c.loop-callee.invariant.exact p is call before);
    }

pub returns-clause-exact : goal.returns-clause-exact
returns-clause-exact c = λ p is call before.
    let all : take c.loop-callee.callee-index c.args.call.now.callees.items ≡ c.args.call.now.callees.items =
    take_all c.loop-callee.callee-index c.args.call.now.callees.items (omega (arith, c.loop-callee-test.false, ap length c.deref-callee-items.ensures.value)) in
    amid_all p c.args.call.now.node call.at c.args.call.now.callees.items call.callees c.loop-callee.callers.items (rw all at (c.loop-callee.invariant.exact p is call before))
