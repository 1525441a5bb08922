use Rattle.ide_slot_store.specs.Working.{ends_quiet, goes_on}
use Rattle.ide_slot_store.proofs.engine.SlotEngine.work_off.Goals as goal

pub loop-preserved : goal.loop-preserved
loop-preserved g c =
    let before = c.loop.invariant in
    let batch = c.in_ok-work_batch.ensures.batch in (
      λ end on. before.0 end (goes_on batch.worked batch.fills.works batch.stores on),
      λ honest. c.in_ok-work_batch.ensures.honest (before.1 honest),
    )

pub returns-then-branch-clause-works : goal.returns-then-branch-clause-works
returns-then-branch-clause-works g c =
    let batch = c.in_ok-work_batch.ensures.batch in
    c.loop.invariant.0 c.work_batch.new.self (ends_quiet batch.worked (batch.fills.all c.if-branch.true) batch.stores)
