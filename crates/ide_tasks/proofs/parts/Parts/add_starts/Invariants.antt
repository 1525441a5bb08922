use Rattle.std.proofs.Common.{◌≡◌, ◌++◌, take}
use Rattle.std.specs.List.{flat_map}
use Rattle.ide_tasks.specs.Parts.{seed_parts}
use Rattle.ide_tasks.proofs.parts.Parts.add_starts.Given as goal

-- the parts over the calls that were gone over stand at the end
abbrev pub invariant-loop-edge : goal.invariant-loop-edge
invariant-loop-edge g l =
    l.self.list.items ≡ l.initial.self.list.items ++ flat_map (seed_parts g.P.F.EdgeFn.edge g.P.Problem.targets l.to) (take l.edge-index l.calls)
