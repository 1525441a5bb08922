use Rattle.std.proofs.Common.{arith}
use Rattle.ide_problem.proofs.Locals.{one_more}
use Rattle.ide_problem.proofs.shared.add_locals.Goals as goal

pub loop-local-preserved : goal.loop-local-preserved
loop-local-preserved g c =
    let inv = c.loop-local.invariant in (
      omega (arith, inv.0),
      omega (arith, inv.0, inv.1, c.loop-local-test.true),
      one_more (λ local. (local, c.args.at_entry)) c.args.targets.now.list.items c.loop-local.targets.list.items c.add.new.self.list.items
          c.args.first c.loop-local.local inv.0 inv.2 c.in_ok-add.ensures.ok,
    )
