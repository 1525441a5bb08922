use Rattle.std.proofs.Common.{◌≡◌, take}
use Rattle.ide_values.specs.Falling.{StartsFall}
use Rattle.ide_values.specs.Pass.{Passes, to_target}
use Rattle.ide_values.proofs.passes.Starts.pass_over.Given as goal

abbrev pub invariant-loop-target : goal.invariant-loop-target
invariant-loop-target g l = record {
  passes : Passes (to_target g.P.L.Lattice.algebra g.P.F.EdgeFn.edge l.graph l.jump.node l.jump.from l.jump.function l.edge.end)
      (λ values target. to_target g.P.L.Lattice.algebra g.P.F.EdgeFn.edge l.graph l.jump.node l.jump.from l.jump.function l.edge.end values target ≡ values)
      (take l.target-index l.target-items) l.initial.self.values.items l.self.values.items l.initial.self.has_fallen l.self.has_fallen;
  falls : StartsFall g.P.L.Lattice.algebra l.initial.self l.self;
}
