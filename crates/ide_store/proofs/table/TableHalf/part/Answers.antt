use Rattle.std.proofs.Common.{◌≡◌, false, refl, subst}
use Rattle.ide_store.specs.Table.{TableData}
use Rattle.ide_store.specs.TableCalls.{after_failure, by_itself, part_overflows, part_refused}
use Rattle.ide_store.proofs.Calls.{does_part}
use Rattle.ide_store.proofs.Stops.{own_stop}
use Rattle.ide_store.proofs.table.TableHalf.part.Goals as goal

pub returns-then-self-clause-refused : goal.returns-then-self-clause-refused
returns-then-self-clause-refused g c = rw (← c.self.view_is) (after_failure c.if-self.true)

pub returns-then-part_overflows-clause-refused : goal.returns-then-part_overflows-clause-refused
returns-then-part_overflows-clause-refused g c =
    by_itself (subst (λ (table : TableData g.row.P-F.Denot). table.failed ≡ false) c.self.view_is c.if-self.false)
    (part_overflows (c.if-part_overflows.ensures.yes refl))

pub returns-clause-lowered : goal.returns-clause-lowered
returns-clause-lowered g c = rw (← c.self.view_is) c.part.ensures.lowered

pub returns-clause-same : goal.returns-clause-same
returns-clause-same g c = rw (← c.self.view_is) c.part.ensures.same

pub returns-clause-part : goal.returns-clause-part
returns-clause-part g c =
    rw (← c.self.view_is)
    (does_part _ c.calls_are_acts.ensures c.args.hand _ _ c.self.invariant.noting (record { version = refl; sealed = refl; waiting = refl; failed = refl })
    c.part.ensures.stays c.part.ensures.remembers c.part.result c.args.work.now c.part.new.work c.part.ensures.current c.part.ensures.lowered c.part.ensures.same)

pub returns-clause-refused : goal.returns-clause-refused
returns-clause-refused g c = rw (← c.self.view_is) (own_stop c.part.result _ _ _ c.if-self.false (λ refused why. part_refused why) c.part.ensures.refused)
