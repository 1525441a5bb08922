use Rattle.std.proofs.Common.{arith, subst, rules}
use Rattle.std.proofs.lemmas.Grind.{common_steps}
use Rattle.std.proofs.lemmas.List.{take_all}
use Rattle.ide_batch.specs.Applied.{MayHaveAll}
use Rattle.ide_batch.proofs.Sets.{may_have_next, may_have_here, never}
use Rattle.ide_batch.proofs.replay.may_have_all.Goals as goal

pub loop-item-preserved : goal.loop-item-preserved
loop-item-preserved g c =
    may_have_next c.args.core.now c.args.items.now c.loop-item.item-index c.item-item.result (omega arith) c.item-item.is c.loop-item.invariant
    (c.may_have.ensures.0 (grind (arith, common_steps)))

pub returns : goal.returns
returns g c = (λ yes. subst (MayHaveAll c.args.core.now) (take_all c.loop-item.item-index c.args.items.now (omega arith)) c.loop-item.invariant, λ all. search rules)

pub returns-then-not-may_have : goal.returns-then-not-may_have
returns-then-not-may_have g c = (
  λ no. absurd (never no),
  λ all.
      let yes = c.may_have.ensures.1 (may_have_here c.args.core.now c.args.items.now c.loop-item.item-index c.item-item.result (omega arith) c.item-item.is all) in
      absurd (grind (arith, common_steps, yes)),
)
