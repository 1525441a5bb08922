use Rattle.std.proofs.Common.{◌≡◌, ◌-◌, ◌^◌, ℕ}
use Rattle.std.specs.Prelude.{min}
use Rattle.ide_steps.specs.Drain.{potential}
use Rattle.ide_steps.specs.DrainRefusal.{MayDrain}
use Rattle.ide_store.specs.Draining.{WorksBy}
use Rattle.ide_store.specs.Table.{Analysis}
use Rattle.ide_store.proofs.table.TableHalf.run_all.Given as goal

-- as many tasks are counted as there were claims, as far as can be counted; and no hand has a claim
abbrev pub invariant-loop-parts : goal.invariant-loop-parts
invariant-loop-parts g l =
    let a : Analysis g.row.P-F.Denot g.row.P-L.Denot = record {
      lattice = g.P.L.Lattice.algebra;
      functions = g.P.F.EdgeFn.edge;
      targets = g.P.Problem.targets;
      same = g.P.F.PartialEq.eq;
      proper = g.P.F.Wire.proper;
      form = g.P.F.Wire.form;
    } in
    ((claims : ℕ) × (l.tasks ≡ min claims (2 ^ 64 - 1)) × WorksBy a l.initial.self l.self claims 0)
    × MayDrain l.self.core

abbrev pub decreases-loop-parts : goal.decreases-loop-parts
decreases-loop-parts g l = potential g.P.F.EdgeFn.edge l.self.core
