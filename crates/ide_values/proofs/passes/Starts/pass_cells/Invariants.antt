use Rattle.std.proofs.Common.{◌-◌, ◌≤◌}
use Rattle.ide_values.specs.Falling.{StartsFall}
use Rattle.ide_values.specs.Passing.{LeavesOffsets}
use Rattle.ide_values.specs.Settled.{ComesTo}
use Rattle.ide_values.proofs.passes.Starts.pass_cells.Given as goal

-- those of the cells in front of the offset are left
abbrev pub invariant-loop-offset : goal.invariant-loop-offset
invariant-loop-offset g l = record {
  within : l.offset ≤ 64;
  leaves : LeavesOffsets g.P.L.Lattice.algebra g.P.F.EdgeFn.edge g.P.Problem.targets l.graph l.tables l.cells.page l.cells.begin l.offset l.initial.self l.self;
  comes : ComesTo g.P.L.Lattice.algebra g.P.F.EdgeFn.edge g.P.Problem.targets l.graph l.tables.table l.initial.self.values.items l.self.values.items;
  falls : StartsFall g.P.L.Lattice.algebra l.initial.self l.self;
}

abbrev pub decreases-loop-offset : goal.decreases-loop-offset
decreases-loop-offset g l = 64 - l.offset
