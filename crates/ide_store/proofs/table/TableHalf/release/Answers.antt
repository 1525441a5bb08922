use Rattle.ide_store.specs.TableCalls.{after_failure}
use Rattle.ide_store.proofs.Stops.{stale_stop}
use Rattle.ide_store.proofs.table.TableHalf.release.Goals as goal

pub returns-then-self-clause-refused : goal.returns-then-self-clause-refused
returns-then-self-clause-refused g c = rw (← c.self.view_is) (after_failure c.if-self.true)

pub returns-clause-refused : goal.returns-clause-refused
returns-clause-refused g c =
    rw (← c.self.view_is) (stale_stop c.release.result _ c.args.hand c.if-self.false c.release.ensures.refused c.release.ensures.stale.0)
