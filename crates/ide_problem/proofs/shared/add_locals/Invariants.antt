use Rattle.std.proofs.Common.{◌≡◌, ◌++◌, ◌-◌, ◌≤◌, map}
use Rattle.std.specs.List.{range_with_len}
use Rattle.ide_problem.proofs.shared.add_locals.Given as goal

-- the locals before the present one stand at the end
abbrev pub invariant-loop-local : goal.invariant-loop-local
invariant-loop-local g l =
    (l.first ≤ l.local) × (l.local - l.first ≤ l.end - l.first)
    × (l.targets.list.items ≡ l.initial.targets.list.items ++ map (λ local. (local, l.at_entry)) (range_with_len l.first (l.local - l.first)))
