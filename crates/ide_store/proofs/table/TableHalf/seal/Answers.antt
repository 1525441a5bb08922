use Rattle.std.proofs.Common.{◌∙◌, ap, sym}
use Rattle.ide_store.specs.TableCalls.{after_failure}
use Rattle.ide_store.proofs.Drained.{same_table}
use Rattle.ide_store.proofs.Stops.{own_stop}
use Rattle.ide_store.proofs.table.TableHalf.seal.Goals as goal

pub returns-then-self-clause-refused : goal.returns-then-self-clause-refused
returns-then-self-clause-refused g c = rw (← c.self.view_is) (after_failure c.if-self.true)

pub returns-clause-refused : goal.returns-clause-refused
returns-clause-refused g c =
    own_stop c.seal_changes.result c.args.self.now _ _ (ap (λ table. table.failed) (sym c.self.view_is) ∙ c.if-self.false) (λ refused why. why) c.seal_changes.ensures.refused

pub returns-clause-unchanged : goal.returns-clause-unchanged
returns-clause-unchanged g c = same_table c.seal_changes.result _ _ c.seal_changes.ensures.unchanged
