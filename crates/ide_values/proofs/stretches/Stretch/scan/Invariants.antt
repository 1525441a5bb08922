use Rattle.ide_values.specs.Stretches.{AreOwnedBy}
use Rattle.ide_values.proofs.stretches.Stretch.scan.Given as goal

-- the nodes that were looked at are of the procedure
abbrev pub invariant-loop-end : goal.invariant-loop-end
invariant-loop-end l = AreOwnedBy l.graph l.node l.end l.procedure
