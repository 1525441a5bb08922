use Rattle.std.proofs.Common.{◌≡◌, ◌-◌, ◌^◌, ℕ}
use Rattle.std.specs.Prelude.{min}
use Rattle.ide_image.specs.Worklist.{IsFree}
use Rattle.ide_steps.specs.Changed.{Remembers}
use Rattle.ide_steps.specs.Drain.{GoesOnPaid, potential}
use Rattle.ide_steps.proofs.machine.Core.run_all.Given as goal

-- so many tasks are counted as there were claims, as far as can be counted, which are paid for; and no
-- hand has a claim
abbrev pub invariant-loop-parts : goal.invariant-loop-parts
invariant-loop-parts g l =
    ((claims : ℕ) × (l.tasks ≡ min claims (2 ^ 64 - 1)) × GoesOnPaid g.P.L.Lattice.algebra g.P.F.EdgeFn.edge g.P.Problem.targets claims l.initial.self l.self)
    × IsFree l.self.pile
    × Remembers l.initial.self l.self

abbrev pub decreases-loop-parts : goal.decreases-loop-parts
decreases-loop-parts g l = potential g.P.F.EdgeFn.edge l.self
