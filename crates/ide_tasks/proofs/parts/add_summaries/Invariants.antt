use Rattle.std.proofs.Common.{◌≡◌, ◌++◌, take, map}
use Rattle.ide_wire.specs.declared.key.Key.TheVariants.{Summary}
use Rattle.ide_tasks.proofs.parts.add_summaries.Given as goal

-- the parts of the targets that were gone over stand at the end
abbrev pub invariant-loop-target : goal.invariant-loop-target
invariant-loop-target g l =
    l.list.items ≡ l.initial.list.items ++ map (λ t. (Summary l.call l.fact t.0, g.F.EdgeFn.edge.compose l.through t.1)) (take l.target-index l.targets)
