use Rattle.std.proofs.Common.{◌+◌, arith, rules, subst}
use Rattle.ide_steps.proofs.Walked.{passes-more}
use Rattle.ide_steps.proofs.walk.passing.Goals as goal

pub loop-count-preserved : goal.loop-count-preserved
loop-count-preserved g c =
    let B = g.P.F.EdgeFn.edge in
    let targets = g.P.Problem.targets in
    let graph = c.args.graph.now in
    let before = c.loop-count.invariant in
    let passes = c.passes_at.ensures.passes (search rules) in
    let behind = c.passes_at.ensures.within (search rules) in (
      passes-more B targets graph c.args.node c.args.fact c.loop-count.count before.0 passes,
      omega (arith, behind),
    )
