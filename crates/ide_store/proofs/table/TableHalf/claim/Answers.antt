use Rattle.std.proofs.Common.{refl}
use Rattle.ide_store.specs.TableCalls.{after_failure}
use Rattle.ide_store.proofs.Stops.{own_stop}
use Rattle.ide_store.proofs.table.TableHalf.claim.Goals as goal

pub returns-then-self-clause-refused : goal.returns-then-self-clause-refused
returns-then-self-clause-refused g c = rw (← c.self.view_is) (after_failure c.if-self.true)

pub returns-clause-task : goal.returns-clause-task
returns-clause-task g c =
    rw (← c.self.view_is)
    (λ task is. c.calls_are_acts.ensures.claim c.args.hand _ _ task c.cores_are_whole.ensures (record { version = refl; sealed = refl; waiting = refl; failed = refl })
    c.claim.ensures.keeps (c.claim.ensures.task task is))

pub returns-clause-refused : goal.returns-clause-refused
returns-clause-refused g c = rw (← c.self.view_is) (own_stop c.claim.result _ _ _ c.if-self.false (λ refused why. why) c.claim.ensures.refused)
