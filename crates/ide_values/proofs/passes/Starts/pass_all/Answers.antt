use Rattle.std.proofs.Common.{subst, take_all}
use Rattle.ide_values.specs.Pass.{IsSteadyOver, Passes, over_edge}
use Rattle.ide_values.proofs.Falling.{falls_not, falls_then}
use Rattle.ide_values.proofs.Passing.{passes_more, passes_none}
use Rattle.ide_values.proofs.passes.Starts.pass_all.Goals as goal

pub loop-edge-init : goal.loop-edge-init
loop-edge-init g c = record {
  passes = passes_none (over_edge g.P.L.Lattice.algebra g.P.F.EdgeFn.edge c.args.graph.now g.P.Problem.targets c.args.jump.now.node c.args.jump.now.from c.args.jump.now.to c.args.jump.now.function)
      (IsSteadyOver g.P.L.Lattice.algebra g.P.F.EdgeFn.edge c.args.graph.now g.P.Problem.targets c.args.jump.now.node c.args.jump.now.from c.args.jump.now.to c.args.jump.now.function)
      c.args.self.now.values.items c.args.self.now.has_fallen;
  falls = falls_not g.P.L.Lattice.algebra c.args.self.now;
}

pub loop-edge-preserved : goal.loop-edge-preserved
loop-edge-preserved g c = record {
  passes = passes_more (over_edge g.P.L.Lattice.algebra g.P.F.EdgeFn.edge c.args.graph.now g.P.Problem.targets c.args.jump.now.node c.args.jump.now.from c.args.jump.now.to c.args.jump.now.function)
      (IsSteadyOver g.P.L.Lattice.algebra g.P.F.EdgeFn.edge c.args.graph.now g.P.Problem.targets c.args.jump.now.node c.args.jump.now.from c.args.jump.now.to c.args.jump.now.function)
      c.args.edges.now c.loop-edge.edge-index c.edge-item.result
      c.args.self.now.values.items c.loop-edge.self.values.items c.pass_over.new.self.values.items
      c.args.self.now.has_fallen c.loop-edge.self.has_fallen c.pass_over.new.self.has_fallen
      c.loop-edge-test.true c.edge-item.is c.loop-edge.invariant.passes
      c.in_ok-pass_over.ensures.passes.all c.in_ok-pass_over.ensures.passes.same c.in_ok-pass_over.ensures.passes.before c.in_ok-pass_over.ensures.passes.steady;
  falls = falls_then g.P.L.Lattice.algebra c.loop-edge.invariant.falls c.in_ok-pass_over.ensures.falls;
}

pub returns-clause-passes : goal.returns-clause-passes
returns-clause-passes g c = subst (λ es. Passes (over_edge g.P.L.Lattice.algebra g.P.F.EdgeFn.edge c.args.graph.now g.P.Problem.targets c.args.jump.now.node c.args.jump.now.from c.args.jump.now.to c.args.jump.now.function)
    (IsSteadyOver g.P.L.Lattice.algebra g.P.F.EdgeFn.edge c.args.graph.now g.P.Problem.targets c.args.jump.now.node c.args.jump.now.from c.args.jump.now.to c.args.jump.now.function)
    es c.args.self.now.values.items c.loop-edge.self.values.items c.args.self.now.has_fallen c.loop-edge.self.has_fallen)
    (take_all c.loop-edge.edge-index c.args.edges.now c.loop-edge-test.false)
    c.loop-edge.invariant.passes

pub returns-clause-falls : goal.returns-clause-falls
returns-clause-falls g c = c.loop-edge.invariant.falls
