use Rattle.std.proofs.Common.{rules, ◌≡◌, ◌++◌, ap, ◌∙◌, ℕ}
use Rattle.ide_tasks.specs.Sources.{sources_over}
use Rattle.ide_tasks.proofs.Inverse.{caller_more}
use Rattle.ide_tasks.proofs.sources.add_callers.Goals as goal

pub loop-index-preserved : goal.loop-index-preserved
loop-index-preserved g c =
    let same : c.in-Ok.index ≡ c.loop-index.index = search rules in
    caller_more g.P.Problem.targets c.args.graph.now.facts c.args.sources.now.items c.loop-index.sources.items c.add_caller.new.sources.items
    c.args.callers.now c.loop-index.index c.index-callers-index.result c.loop-index-test.true c.index-callers-index.is c.loop-index.invariant
    (c.in_ok-add_caller.ensures
    ∙ ap (λ (n : ℕ). c.loop-index.sources.items ++ sources_over g.P.Problem.targets c.args.graph.now.facts n c.index-callers-index.result) same)
