use Rattle.std.proofs.Common.{◌≡◌, ◌++◌, take, map}
use Rattle.ide_wire.specs.declared.key.Key.TheVariants.{Jump}
use Rattle.ide_tasks.proofs.parts.Parts.add_by_flow.Given as goal

-- the parts of the targets that were gone over stand at the end
abbrev pub invariant-loop-target : goal.invariant-loop-target
invariant-loop-target g l =
    l.list.items ≡ l.initial.list.items ++ map (λ t. (Jump l.edge.end l.from t.0, g.P.F.EdgeFn.edge.compose l.function t.1)) (take l.target-index l.target-items)
