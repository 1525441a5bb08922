use Rattle.std.proofs.Common.{◌≡◌, ap, false, refl, subst}
use Rattle.ide_store.specs.Table.{TableData}
use Rattle.ide_store.specs.TableCalls.{after_failure, by_itself, end_overflows, end_refused}
use Rattle.ide_store.proofs.Calls.{end_keeps, ends_claim, put_none}
use Rattle.ide_store.proofs.Stops.{own_stop}
use Rattle.ide_store.proofs.table.TableHalf.finish.Goals as goal

pub returns-then-self-clause-refused : goal.returns-then-self-clause-refused
returns-then-self-clause-refused g c = rw (← c.self.view_is) (after_failure c.if-self.true)

pub returns-then-end_overflows-clause-refused : goal.returns-then-end_overflows-clause-refused
returns-then-end_overflows-clause-refused g c =
    by_itself (subst (λ (table : TableData g.row.P-F.Denot). table.failed ≡ false) c.self.view_is c.if-self.false)
    (end_overflows (c.if-end_overflows.ensures.yes refl))

pub invariant_of-self : goal.invariant_of-self
invariant_of-self g c =
    end_keeps g.P.F.EdgeFn.edge g.P.Problem.targets c.finish.result c.args.hand c.self.inside.core c.finish.new.self c.args.work.now c.self.inside.outbox.sealed _
    c.self.invariant c.finish.ensures.remembers c.finish.ensures.current c.finish.ensures.finished c.finish.ensures.notes c.finish.ensures.unchanged
    c.args.self.now.core (ap (λ table. table.core) c.self.view_is) (c.if-end_overflows.ensures.no refl)

pub returns-clause-ends : goal.returns-clause-ends
returns-clause-ends g c =
    rw (← c.self.view_is)
    (ends_claim _ c.calls_are_acts.ensures c.args.hand _ _ c.self.invariant.noting (record { version = refl; sealed = refl; waiting = refl; failed = refl })
    c.finish.ensures.stays c.finish.ensures.remembers c.finish.result c.finish.ensures.finished)

pub returns-clause-refused : goal.returns-clause-refused
returns-clause-refused g c = rw (← c.self.view_is) (own_stop c.finish.result _ _ _ c.if-self.false (λ refused why. end_refused why) c.finish.ensures.refused)

pub returns-clause-free : goal.returns-clause-free
returns-clause-free g c = put_none c.finish.result c.args.hand c.self.inside.core.pile c.finish.new.self.pile c.finish.ensures.claims
