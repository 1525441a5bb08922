use Rattle.std.proofs.Common.{◌≡◌, ◌++◌, take}
use Rattle.ide_tasks.specs.Parts.{resumed_parts}
use Rattle.ide_tasks.proofs.parts.Parts.add_summary.Given as goal

-- the parts of the jumps that were gone over stand at the end
abbrev pub invariant-loop-from : goal.invariant-loop-from
invariant-loop-from g l =
    l.self.list.items ≡ l.initial.self.list.items ++ resumed_parts g.P.F.EdgeFn.edge g.P.Problem.targets l.return_site l.to l.summary (take l.from-index l.jumps)
