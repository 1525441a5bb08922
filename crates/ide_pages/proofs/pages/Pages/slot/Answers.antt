use Rattle.std.proofs.Common.{sym, ◌∙◌}
use Rattle.ide_pages.proofs.KeyCells.{slot-empty, slot-full, slot-number}
use Rattle.ide_pages.proofs.pages.Pages.slot.Goals as goal

pub returns-then-number-eq0-clause-slot : goal.returns-then-number-eq0-clause-slot
returns-then-number-eq0-clause-slot c =
    rw (← c.self.view_is)
    (sym (slot-empty c.self.invariant c.args.cell
    (sym c.get-number.ensures ∙ c.if-number-eq0.true)))

pub returns-clause-slot : goal.returns-clause-slot
returns-clause-slot c =
    rw (← c.self.view_is)
    (sym (slot-full c.self.invariant c.args.cell c.in_ok-key.key c.get-number.result
    (rw (c.deref.ensures.value) at c.in_ok-key.ensures.key) c.get-number.ensures c.if-number-eq0.false))

pub returns-clause-present : goal.returns-clause-present
returns-clause-present c =
    rw (← c.self.view_is)
    (slot-number c.self.invariant c.args.cell c.in_ok-key.key (rw (c.deref.ensures.value) at c.in_ok-key.ensures.key) (rw (c.deref.ensures.value) at c.in_ok-key.ensures.there)
    ∙ sym c.get-number.ensures)
