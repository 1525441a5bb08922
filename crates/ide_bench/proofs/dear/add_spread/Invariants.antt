use Rattle.std.proofs.Common.{◌≡◌, ◌++◌, ◌-◌, ◌≤◌, map}
use Rattle.std.specs.List.{range_with_len}
use Rattle.ide_bench.specs.Dear.{with_identity}
use Rattle.ide_bench.proofs.dear.add_spread.Given as goal

-- the facts before the present one stand at the end
abbrev pub invariant-loop-fact : goal.invariant-loop-fact
invariant-loop-fact l =
    (l.first ≤ l.fact) × (l.fact - l.first ≤ l.end - l.first)
    × (l.targets.list.items ≡ l.initial.targets.list.items ++ map with_identity (range_with_len l.first (l.fact - l.first)))
