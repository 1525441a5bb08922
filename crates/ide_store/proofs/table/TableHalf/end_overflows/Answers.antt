use Rattle.std.proofs.Common.{◌∙◌, ap, arith, sym}
use Rattle.std.specs.Option.{option_copied}
use Rattle.ide_store.proofs.Stops.{end_full, where-none}
use Rattle.ide_store.proofs.table.TableHalf.end_overflows.Goals as goal

pub returns-then-not-claim-clause-yes : goal.returns-then-not-claim-clause-yes
returns-then-not-claim-clause-yes g c =
    let full = c.if-not-is_full_for.false in
    let done = where-none c.next.result (sym c.is_some.ensures ∙ c.if-is_some.false) c.next.ensures.all_done in
    rw (← c.self.view_is) (end_full _ _ _ c.args.hand c.args.work.now c.in-Some.claim.now c.is_changed.result
    (c.is_full_for.ensures.current full) (c.is_full_for.ensures.full full) (omega (arith, done))
    (sym c.claim_of.ensures ∙ ap option_copied c.in-Some.is) c.if-not-claim.true c.is_changed.ensures)
