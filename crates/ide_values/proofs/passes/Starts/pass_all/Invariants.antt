use Rattle.std.proofs.Common.{take}
use Rattle.ide_values.specs.Falling.{StartsFall}
use Rattle.ide_values.specs.Pass.{IsSteadyOver, Passes, over_edge}
use Rattle.ide_values.proofs.passes.Starts.pass_all.Given as goal

abbrev pub invariant-loop-edge : goal.invariant-loop-edge
invariant-loop-edge g l = record {
  passes : Passes (over_edge g.P.L.Lattice.algebra g.P.F.EdgeFn.edge l.graph g.P.Problem.targets l.jump.node l.jump.from l.jump.to l.jump.function)
      (IsSteadyOver g.P.L.Lattice.algebra g.P.F.EdgeFn.edge l.graph g.P.Problem.targets l.jump.node l.jump.from l.jump.to l.jump.function)
      (take l.edge-index l.edges) l.initial.self.values.items l.self.values.items l.initial.self.has_fallen l.self.has_fallen;
  falls : StartsFall g.P.L.Lattice.algebra l.initial.self l.self;
}
