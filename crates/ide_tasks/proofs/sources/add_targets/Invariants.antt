use Rattle.std.proofs.Common.{◌≡◌, ◌++◌, take, map}
use Rattle.ide_tasks.specs.Sources.{source_of}
use Rattle.ide_tasks.proofs.sources.add_targets.Given as goal

-- the sources of the targets that were gone over stand at the end
abbrev pub invariant-loop-reached : goal.invariant-loop-reached
invariant-loop-reached g l =
    l.sources.items ≡ l.initial.sources.items ++ map (source_of l.caller l.fact) (take l.reached-index l.reached-items)
