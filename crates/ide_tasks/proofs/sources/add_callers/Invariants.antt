use Rattle.std.proofs.Common.{◌≡◌, ◌++◌, take}
use Rattle.ide_tasks.specs.Sources.{sources_from}
use Rattle.ide_tasks.proofs.sources.add_callers.Given as goal

-- the sources of the callers that were gone over stand at the end
abbrev pub invariant-loop-index : goal.invariant-loop-index
invariant-loop-index g l =
    l.sources.items ≡ l.initial.sources.items ++ sources_from g.P.Problem.targets l.graph.facts 0 (take l.index l.callers)
