use Rattle.ide_values.specs.Falling.{StartsFall}
use Rattle.ide_values.specs.Settled.{ComesTo}
use Rattle.ide_values.proofs.passes.Starts.pass_from.Given as goal

abbrev pub invariant-loop-cells : goal.invariant-loop-cells
invariant-loop-cells g l = record {
  comes : ComesTo g.P.L.Lattice.algebra g.P.F.EdgeFn.edge g.P.Problem.targets l.graph l.tables.table l.initial.self.values.items l.self.values.items;
  falls : StartsFall g.P.L.Lattice.algebra l.initial.self l.self;
}

-- each link leads to one before
abbrev pub decreases-loop-cells : goal.decreases-loop-cells
decreases-loop-cells g l = l.index
