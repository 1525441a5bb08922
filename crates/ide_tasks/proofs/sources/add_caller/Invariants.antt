use Rattle.std.proofs.Common.{◌≡◌, ◌++◌, map}
use Rattle.std.specs.List.{flat_map, range_with_len}
use Rattle.ide_tasks.specs.Sources.{source_of}
use Rattle.ide_tasks.proofs.sources.add_caller.Given as goal

-- the sources from the facts before the present one stand at the end
abbrev pub invariant-loop-fact : goal.invariant-loop-fact
invariant-loop-fact g l =
    l.sources.items ≡ l.initial.sources.items
    ++ flat_map (λ fact. map (source_of l.caller_index fact) (g.P.Problem.targets l.caller.call fact)) (range_with_len 0 l.fact)
