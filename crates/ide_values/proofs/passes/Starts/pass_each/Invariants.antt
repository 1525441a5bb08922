use Rattle.std.proofs.Common.{◌*◌}
use Rattle.ide_values.specs.Falling.{StartsFall}
use Rattle.ide_values.specs.Passing.{LeavesCells}
use Rattle.ide_values.specs.Settled.{ComesTo}
use Rattle.ide_values.proofs.passes.Starts.pass_each.Given as goal

-- the cells of the first pages are left
abbrev pub invariant-loop-page : goal.invariant-loop-page
invariant-loop-page g l = record {
  leaves : LeavesCells g.P.L.Lattice.algebra g.P.F.EdgeFn.edge g.P.Problem.targets l.graph l.tables 0 (64 * l.page) l.initial.self l.self;
  comes : ComesTo g.P.L.Lattice.algebra g.P.F.EdgeFn.edge g.P.Problem.targets l.graph l.tables.table l.initial.self.values.items l.self.values.items;
  falls : StartsFall g.P.L.Lattice.algebra l.initial.self l.self;
}
