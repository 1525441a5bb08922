use Rattle.ide_tasks.specs.Sources.{source_of}
use Rattle.std.proofs.Common.{map, ◌∙◌, ap, ◌++◌}
use Rattle.ide_tasks.proofs.Exits.{one_fact_more}
use Rattle.ide_tasks.proofs.sources.add_caller.Goals as goal

pub loop-fact-preserved : goal.loop-fact-preserved
loop-fact-preserved g c =
    one_fact_more (λ fact. map (source_of c.args.caller_index fact) (g.P.Problem.targets c.args.caller.now.call fact))
    c.args.sources.now.items c.loop-fact.sources.items c.add_targets.new.sources.items c.loop-fact.fact
    c.loop-fact.invariant
    (c.in_ok-add_targets.ensures ∙ ap (λ ts. c.loop-fact.sources.items ++ map (source_of c.args.caller_index c.loop-fact.fact) ts) c.in_ok-flow.ensures.ok)
