use Rattle.std.proofs.Common.{◌≡◌, ◌++◌, take}
use Rattle.std.specs.List.{flat_map}
use Rattle.ide_tasks.specs.Parts.{flat_parts}
use Rattle.ide_tasks.proofs.parts.Parts.add_edges.Given as goal

-- the parts over the edges that were gone over stand at the end
abbrev pub invariant-loop-edge : goal.invariant-loop-edge
invariant-loop-edge g l =
    l.self.list.items ≡ l.initial.self.list.items ++ flat_map (flat_parts g.P.F.EdgeFn.edge g.P.Problem.targets l.from l.to l.function) (take l.edge-index l.edges)
