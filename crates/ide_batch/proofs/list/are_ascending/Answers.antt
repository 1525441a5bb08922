use Rattle.std.proofs.Common.{arith, rules}
use Rattle.std.proofs.lemmas.Grind.{common_steps}
use Rattle.ide_batch.proofs.Ascending.{adjacent_more, ascending, not_ascending}
use Rattle.ide_batch.proofs.list.are_ascending.Goals as goal

pub loop-next-preserved : goal.loop-next-preserved
loop-next-preserved g c =
    adjacent_more c.args.items.now c.loop-next.next c.index-items-next.result c.index-items-next-in-loop-next.result (omega arith) (omega arith)
    c.index-items-next.is c.index-items-next-in-loop-next.is (grind (arith, common_steps)) c.loop-next.invariant

pub returns : goal.returns
returns g c = (λ yes. ascending c.args.items.now c.loop-next.next (omega arith) c.loop-next.invariant, λ sorted. search rules)

pub returns-then-not-is_below : goal.returns-then-not-is_below
returns-then-not-is_below g c = (
  λ yes. absurd (grind (arith, common_steps)),
  λ sorted. absurd (not_ascending c.args.items.now c.loop-next.next c.index-items-next.result c.index-items-next-in-loop-next.result (omega arith) (omega arith)
      c.index-items-next.is c.index-items-next-in-loop-next.is (λ less. grind (arith, common_steps)) sorted),
)
