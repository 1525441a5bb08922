use Rattle.std.proofs.Common.{rules}
use Rattle.ide_plain.proofs.Found.{function_next, function_past}
use Rattle.ide_plain.proofs.effect.function_to.Goals as goal

pub returns-then-target-fact : goal.returns-then-target-fact
returns-then-target-fact g c =
    search (rules, function_next g.F.EdgeFn.edge c.args.fact c.args.targets.now.list.items c.loop-target.target-index c.loop-target-item.result)

pub returns : goal.returns
returns g c = search (rules, function_past g.F.EdgeFn.edge c.args.fact c.args.targets.now.list.items c.loop-target.target-index)

pub loop-target-preserved : goal.loop-target-preserved
loop-target-preserved g c =
    search (rules, function_next g.F.EdgeFn.edge c.args.fact c.args.targets.now.list.items c.loop-target.target-index c.loop-target-item.result)
