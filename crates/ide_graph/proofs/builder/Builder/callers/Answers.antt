use Rattle.std.proofs.Common.{◌≡◌, ◌<◌, Some, get_or, ap, length, refl, subst, arith}
use Rattle.std.specs.Prelude.{slice_get}
use Rattle.std.proofs.lemmas.Option.{slice_get_read}
use Rattle.ide_graph.specs.Building.{AllCallersBefore, node_count}
use Rattle.ide_graph.proofs.CallerLemmas.{before_none}
use Rattle.ide_graph.proofs.ProgramLemmas.{spot_stands}
use Rattle.ide_graph.proofs.builder.Builder.callers.Goals as goal

pub loop-node-init : goal.loop-node-init
loop-node-init c = record {
  lists = c.in_ok-callers.ensures.lists;
  exact = λ p is. before_none p c.in_ok-callers.callers.items c.in_ok-callers.ensures.empty;
}

pub loop-node-preserved : goal.loop-node-preserved
loop-node-preserved c = record {
  lists = c.in_ok-add_call_at.ensures.callers;
  exact = λ p is.
      let spots = c.args.self.now.numbering.now.spots.items in
      let items = c.deref-spot-items.ensures.value in
      let within : c.loop-node.node < length spots = omega (arith, c.loop-node-test.true, ap length items) in
      let at : slice_get spots c.loop-node.node ≡ Some c.spot-item.result =
      slice_get_read spots (length spots) c.loop-node.node c.spot-item.result refl within (subst (λ xs. c.spot-item.result ≡ get_or xs c.loop-node.node c.spot-item.result) items c.spot-item.is) in
      let stands = spot_stands p c.args.self.now is c.loop-node.node c.spot-item.result at in
      c.in_ok-add_call_at.ensures.exact p stands.0 is stands.1 (c.loop-node.invariant.exact p is);
}

pub returns-clause-exact : goal.returns-clause-exact
returns-clause-exact c = λ p is.
    let end : c.loop-node.node ≡ node_count c.args.self.now = omega (arith, c.loop-node-test.false, c.loop-node.auto.node-end, ap length c.deref-spot-items.ensures.value) in
    subst (λ n. AllCallersBefore p n c.loop-node.callers.items) end (c.loop-node.invariant.exact p is)
