use Rattle.std.proofs.Common.{◌≤◌}
use Rattle.ide_steps.specs.Drain.{potential}
use Rattle.ide_steps.specs.DrainRefusal.{MayDrain}
use Rattle.ide_store.specs.Draining.{WorksBy}
use Rattle.ide_store.specs.Table.{Analysis, KeepsRest}
use Rattle.ide_store.proofs.table.TableHalf.run_some.Given as goal

-- as many tasks are counted as there were claims, no more than asked for; no batch was sealed; and no hand has a claim
abbrev pub invariant-loop-tasks : goal.invariant-loop-tasks
invariant-loop-tasks g l =
    let a : Analysis g.row.P-F.Denot g.row.P-L.Denot = record {
      lattice = g.P.L.Lattice.algebra;
      functions = g.P.F.EdgeFn.edge;
      targets = g.P.Problem.targets;
      same = g.P.F.PartialEq.eq;
      proper = g.P.F.Wire.proper;
      form = g.P.F.Wire.form;
    } in
    WorksBy a l.initial.self l.self l.tasks 0
    × (l.tasks ≤ l.most)
    × KeepsRest l.initial.self l.self
    × MayDrain l.self.core

abbrev pub decreases-loop-tasks : goal.decreases-loop-tasks
decreases-loop-tasks g l = potential g.P.F.EdgeFn.edge l.self.core
