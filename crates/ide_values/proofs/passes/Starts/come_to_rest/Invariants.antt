use Rattle.ide_values.specs.Falling.{ranks}
use Rattle.ide_values.specs.Settled.{ComesTo}
use Rattle.ide_values.proofs.passes.Starts.come_to_rest.Given as goal

abbrev pub invariant-loop-targets : goal.invariant-loop-targets
invariant-loop-targets g l =
    ComesTo g.P.L.Lattice.algebra g.P.F.EdgeFn.edge g.P.Problem.targets l.graph l.tables.table l.initial.self.values.items l.self.values.items

abbrev pub decreases-loop-targets : goal.decreases-loop-targets
decreases-loop-targets g l = ranks g.P.L.Lattice.algebra l.self.values.items
