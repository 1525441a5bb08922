use Rattle.ide_store.specs.TableCalls.{after_failure}
use Rattle.ide_store.proofs.Stops.{own_stop}
use Rattle.ide_store.proofs.table.TableHalf.may_drain.Goals as goal

pub returns-then-self-clause-refused : goal.returns-then-self-clause-refused
returns-then-self-clause-refused g c = rw (← c.self.view_is) (after_failure c.if-self.true)

pub returns-clause-refused : goal.returns-clause-refused
returns-clause-refused g c = rw (← c.self.view_is) (own_stop c.may_drain.result _ _ _ c.if-self.false (λ refused why. why) c.may_drain.ensures.refused)
