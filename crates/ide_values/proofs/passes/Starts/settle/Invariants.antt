use Rattle.std.proofs.Common.{◌+◌, ◌≤◌, length}
use Rattle.ide_values.specs.Falling.{ranks}
use Rattle.ide_values.specs.Settled.{ComesTo}
use Rattle.ide_values.proofs.passes.Starts.settle.Given as goal

abbrev pub invariant-loop-place : goal.invariant-loop-place
invariant-loop-place g l = record {
  comes : ComesTo g.P.L.Lattice.algebra g.P.F.EdgeFn.edge g.P.Problem.targets l.graph l.tables.table l.initial.self.values.items l.self.values.items;
  falls : ranks g.P.L.Lattice.algebra l.self.values.items ≤ ranks g.P.L.Lattice.algebra l.initial.self.values.items;
}

-- a place that is left waits no more, and each that waits anew is paid for by a rank
abbrev pub decreases-loop-place : goal.decreases-loop-place
decreases-loop-place g l = ranks g.P.L.Lattice.algebra l.self.values.items + length l.self.waiting.items
