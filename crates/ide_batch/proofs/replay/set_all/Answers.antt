use Rattle.std.specs.Prelude.{Result, Ok, Err, OnErr, take}
use Rattle.std.proofs.Common.{arith, ◌∙◌}
use Rattle.ide_batch.proofs.Sets.{sets_none, sets_one, sets_unchanged, sets_next, sets_front}
use Rattle.ide_batch.proofs.replay.set_all.Goals as goal

on_err : {T E : Type 0} {P : Type 0} (result : Result T E) → P → OnErr result P
on_err (Ok x) p = tt
on_err (Err e) p = p

pub loop-item-init : goal.loop-item-init
loop-item-init g c = record { sets = sets_none c.args.core.now; free = c.requires.free }

pub loop-item-preserved : goal.loop-item-preserved
loop-item-preserved g c = record {
  sets = sets_next c.args.core.now c.set.new.self c.args.items.now c.loop-item.item-index c.item-item.result (omega arith) c.item-item.is
      (sets_one c.args.core.now c.loop-item.core c.set.new.self (take c.loop-item.item-index c.args.items.now) c.item-item.result
      c.loop-item.invariant.sets c.in_ok-set.ensures.stays c.in_ok-set.ensures.sets c.in_ok-set.ensures.pending);
  free = λ h. c.in_ok-set.ensures.claims h ∙ c.loop-item.invariant.free h;
}

pub returns-in_err-set-clause-kept : goal.returns-in_err-set-clause-kept
returns-in_err-set-clause-kept g c =
    on_err c.from_residual.result
    (sets_front c.args.core.now c.set.new.self c.args.items.now c.loop-item.item-index
    (sets_unchanged c.args.core.now c.loop-item.core c.set.new.self (take c.loop-item.item-index c.args.items.now)
    c.loop-item.invariant.sets c.in_err-set.ensures.unchanged))
