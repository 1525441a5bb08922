use Rattle.std.proofs.Common.{sym, ◌∙◌}
use Rattle.ide_pages.proofs.RowLemmas.{page-here, page-other, page-past}
use Rattle.ide_pages.proofs.row.Row.page_at.Goals as goal

pub returns-in_err-listed : goal.returns-in_err-listed
returns-in_err-listed c =
    let row = c.self.inside.pages.items in
    let past = (rw c.deref.ensures.value at c.in_err-listed.ensures.lookup).3 in
    rw (← c.self.view_is)
    (c.from_residual.ensures ∙ sym (page-past c.args.fact row c.args.place c.self.invariant (rw (← c.self.view_is) at c.requires.place) past))

pub returns-then-listed-fact : goal.returns-then-listed-fact
returns-then-listed-fact c =
    let listed = c.in_ok-listed.listed.now in
    let there = (rw c.deref.ensures.value at c.in_ok-listed.ensures.lookup).3 in
    rw (← c.self.view_is)
    (sym (page-here c.args.fact c.self.inside.pages.items c.args.place listed c.self.invariant there.0 (there.1 listed) c.if-listed-fact.true))

pub returns-else-listed-fact : goal.returns-else-listed-fact
returns-else-listed-fact c =
    let there = (rw c.deref.ensures.value at c.in_ok-listed.ensures.lookup).3 in
    rw (← c.self.view_is)
    (sym (page-other c.args.fact c.self.inside.pages.items c.args.place c.in_ok-listed.listed.now c.self.invariant
    (rw (← c.self.view_is) at c.requires.place) there.1 c.if-listed-fact.false))
