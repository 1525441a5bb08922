use Rattle.std.proofs.Common.{◌≡◌, ◌++◌, take}
use Rattle.ide_tasks.specs.Parts.{after_parts}
use Rattle.ide_tasks.proofs.parts.Parts.add_over_call.Given as goal

-- the parts of the summaries that were gone over stand at the end
abbrev pub invariant-loop-fact : goal.invariant-loop-fact
invariant-loop-fact g l =
    l.self.list.items ≡ l.initial.self.list.items ++ after_parts g.P.F.EdgeFn.edge g.P.Problem.targets l.return_site l.from l.function (take l.fact-index l.summaries)
