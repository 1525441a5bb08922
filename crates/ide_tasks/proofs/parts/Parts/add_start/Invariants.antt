use Rattle.std.proofs.Common.{◌≡◌, ◌++◌, take, map}
use Rattle.ide_wire.specs.declared.key.Key.TheVariants.{Jump}
use Rattle.ide_tasks.proofs.parts.Parts.add_start.Given as goal

-- the parts of the targets that were gone over stand at the end
abbrev pub invariant-loop-target : goal.invariant-loop-target
invariant-loop-target g l =
    l.list.items ≡ l.initial.list.items ++ map (λ t. (Jump l.edge.end t.0 t.0, g.P.F.EdgeFn.edge.id)) (take l.target-index l.target-items)
