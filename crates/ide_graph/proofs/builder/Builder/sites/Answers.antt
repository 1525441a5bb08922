use Rattle.std.proofs.Common.{◌≡◌, ◌+◌, ◌<◌, Some, get_or, length, refl, ap, subst, ◌∙◌, arith}
use Rattle.std.specs.Prelude.{slice_get}
use Rattle.std.proofs.lemmas.List.{length_push}
use Rattle.std.proofs.lemmas.List.Elements.{All-push}
use Rattle.std.proofs.lemmas.Option.{slice_get_read}
use Rattle.ide_graph.specs.Building.{node_count}
use Rattle.ide_graph.specs.Edges.{EdgesWithin}
use Rattle.ide_graph.specs.ProgramEdges.{IsSiteOf}
use Rattle.ide_graph.proofs.CallerLemmas.{before_all}
use Rattle.ide_graph.proofs.ProgramLemmas.{counted, spot_stands}
use Rattle.ide_graph.proofs.SliceLemmas.{each_push}
use Rattle.ide_graph.proofs.builder.Builder.sites.Goals as goal

pub loop-node-init : goal.loop-node-init
loop-node-init c = record {
  callers = c.in_ok-callers.ensures.lists;
  whole = ap length c.in_ok-sites.ensures.items;
  within = rw c.in_ok-sites.ensures.items (λ k d within. absurd (omega arith));
  exact = λ p is. rw c.in_ok-sites.ensures.items (λ node site e. let none : ⊥ = cc in absurd none);
  left = λ p is index callers at more. before_all p c.in_ok-callers.callers.items (node_count c.args.self.now) (counted p c.args.self.now is) (c.in_ok-callers.ensures.exact p is) index callers at;
}

pub loop-node-preserved : goal.loop-node-preserved
loop-node-preserved c =
    let pushed = c.in_ok-push.ensures.items in
    let spots = c.args.self.now.numbering.now.spots.items in
    let items = c.deref-spot-items.ensures.value in
    let before : c.loop-node.node < length spots = omega (arith, c.loop-node-test.true, ap length items) in
    let at : slice_get spots c.loop-node.node ≡ Some c.spot-item.result =
    slice_get_read spots (length spots) c.loop-node.node c.spot-item.result refl before (subst (λ xs. c.spot-item.result ≡ get_or xs c.loop-node.node c.spot-item.result) items c.spot-item.is) in
    record {
      callers = c.in_ok-site.ensures.callers;
      whole = ap length pushed ∙ (length_push c.loop-node.sites.items c.in_ok-site.field-0 ∙ ap (λ n. n + 1) c.loop-node.invariant.whole);
      within = rw pushed
          (All-push (EdgesWithin (node_count c.args.self.now)) c.loop-node.sites.items c.in_ok-site.field-0 c.loop-node.invariant.within c.in_ok-site.ensures.edges);
      exact = λ p is.
          let stands = spot_stands p c.args.self.now is c.loop-node.node c.spot-item.result at in
          let made = c.in_ok-site.ensures.exact p stands.0 is stands.1 (c.loop-node.invariant.left p is) in
          rw pushed
          (each_push (IsSiteOf p) c.loop-node.sites.items c.in_ok-site.field-0 c.loop-node.node c.loop-node.invariant.whole (c.loop-node.invariant.exact p is) made);
      left = λ p is.
          let stands = spot_stands p c.args.self.now is c.loop-node.node c.spot-item.result at in
          c.in_ok-site.ensures.left p stands.0 is stands.1 (c.loop-node.invariant.left p is);
    }
