use Rattle.std.proofs.Common.{◌≡◌, sym, subst, ◌∙◌, take_all}
use Rattle.ide_values.specs.Pass.{Passes, to_target}
use Rattle.ide_values.proofs.Falling.{falls_not, falls_then}
use Rattle.ide_values.proofs.Passing.{passes_more, passes_none}
use Rattle.ide_values.proofs.passes.Starts.pass_over.Goals as goal

pub loop-target-init : goal.loop-target-init
loop-target-init g c = record {
  passes = passes_none (to_target g.P.L.Lattice.algebra g.P.F.EdgeFn.edge c.args.graph.now c.args.jump.now.node c.args.jump.now.from c.args.jump.now.function c.args.edge.now.end)
      (λ values target. to_target g.P.L.Lattice.algebra g.P.F.EdgeFn.edge c.args.graph.now c.args.jump.now.node c.args.jump.now.from c.args.jump.now.function c.args.edge.now.end values target ≡ values)
      c.args.self.now.values.items c.args.self.now.has_fallen;
  falls = falls_not g.P.L.Lattice.algebra c.args.self.now;
}

pub loop-target-preserved : goal.loop-target-preserved
loop-target-preserved g c = record {
  passes = passes_more (to_target g.P.L.Lattice.algebra g.P.F.EdgeFn.edge c.args.graph.now c.args.jump.now.node c.args.jump.now.from c.args.jump.now.function c.args.edge.now.end)
      (λ values target. to_target g.P.L.Lattice.algebra g.P.F.EdgeFn.edge c.args.graph.now c.args.jump.now.node c.args.jump.now.from c.args.jump.now.function c.args.edge.now.end values target ≡ values)
      c.as_slice-target-items.result.now c.loop-target.target-index c.target-item.result
      c.args.self.now.values.items c.loop-target.self.values.items c.pass_to.new.self.values.items
      c.args.self.now.has_fallen c.loop-target.self.has_fallen c.pass_to.new.self.has_fallen
      c.loop-target-test.true c.target-item.is c.loop-target.invariant.passes
      c.in_ok-pass_to.ensures.passed c.in_ok-pass_to.ensures.marks.same c.in_ok-pass_to.ensures.marks.before
      (λ e. sym c.in_ok-pass_to.ensures.passed ∙ c.in_ok-pass_to.ensures.marks.same e);
  falls = falls_then g.P.L.Lattice.algebra c.loop-target.invariant.falls c.in_ok-pass_to.ensures.falls;
}

pub returns-clause-passes : goal.returns-clause-passes
returns-clause-passes g c = subst (λ ts. Passes (to_target g.P.L.Lattice.algebra g.P.F.EdgeFn.edge c.args.graph.now c.args.jump.now.node c.args.jump.now.from c.args.jump.now.function c.args.edge.now.end)
    (λ values target. to_target g.P.L.Lattice.algebra g.P.F.EdgeFn.edge c.args.graph.now c.args.jump.now.node c.args.jump.now.from c.args.jump.now.function c.args.edge.now.end values target ≡ values)
    ts c.args.self.now.values.items c.loop-target.self.values.items c.args.self.now.has_fallen c.loop-target.self.has_fallen)
    (take_all c.loop-target.target-index c.as_slice-target-items.result.now c.loop-target-test.false ∙ c.as_slice-target-items.ensures.value ∙ c.in_ok-flow.ensures.ok)
    c.loop-target.invariant.passes

pub returns-clause-falls : goal.returns-clause-falls
returns-clause-falls g c = c.loop-target.invariant.falls
