use Rattle.std.proofs.Common.{sym, ◌∙◌}
use Rattle.ide_image.proofs.Columns.{entry-known, entry-none}
use Rattle.ide_image.proofs.indexed.Indexed.entry_at.Goals as goal

pub returns-in_err-function-clause-entry : goal.returns-in_err-function-clause-entry
returns-in_err-function-clause-entry g c =
    let none = rw (← c.self.view_is) at c.in_err-function.ensures.function in
    rw (← c.self.view_is)
    (c.from_residual.ensures ∙ sym (entry-none c.self.inside.places c.self.inside.functions.items c.self.invariant.paged c.args.cell none))

pub returns-clause-entry : goal.returns-clause-entry
returns-clause-entry g c =
    let shows = rw (← c.self.view_is) at c.in_ok-function.ensures.function in
    rw (← c.self.view_is)
    (sym (entry-known c.self.inside.places c.self.inside.functions.items c.self.invariant.paged c.args.cell c.in_ok-key.key c.in_ok-function.function
    c.in_ok-key.ensures.key shows).0)

pub returns-clause-present : goal.returns-clause-present
returns-clause-present g c =
    let shows = rw (← c.self.view_is) at c.in_ok-function.ensures.function in
    rw (← c.self.view_is)
    (entry-known c.self.inside.places c.self.inside.functions.items c.self.invariant.paged c.args.cell c.in_ok-key.key c.in_ok-function.function
    c.in_ok-key.ensures.key shows).1

pub returns-clause-place : goal.returns-clause-place
returns-clause-place g c =
    let shows = rw (← c.self.view_is) at c.in_ok-function.ensures.function in
    rw (← c.self.view_is)
    (entry-known c.self.inside.places c.self.inside.functions.items c.self.invariant.paged c.args.cell c.in_ok-key.key c.in_ok-function.function
    c.in_ok-key.ensures.key shows).2
