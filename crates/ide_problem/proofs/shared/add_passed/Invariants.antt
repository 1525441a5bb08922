use Rattle.std.proofs.Common.{◌≡◌, ◌++◌, nat_eq, take}
use Rattle.std.specs.List.{flat_map}
use Rattle.ide_problem.specs.Shared.{kept}
use Rattle.ide_problem.proofs.shared.add_passed.Given as goal

-- the parameters of the pairs that were gone over stand at the end
abbrev pub invariant-loop-argument : goal.invariant-loop-argument
invariant-loop-argument g l =
    l.targets.list.items ≡ l.initial.targets.list.items ++ flat_map (λ pair. kept g.F.EdgeFn.edge.id (nat_eq pair.0 l.fact) pair.1) (take l.argument-index l.pairs)
