use Rattle.std.proofs.Common.{sym, ap, ◌∙◌}
use Rattle.ide_image.specs.Indexed.{kept_at}
use Rattle.ide_image.proofs.Columns.{cell-at, function-is, function-none, kept-in-is, kept-some}
use Rattle.ide_image.proofs.indexed.Indexed.kept_in.Goals as goal

pub returns-then-number-eq0-clause-kept : goal.returns-then-number-eq0-clause-kept
returns-then-number-eq0-clause-kept g c =
    rw (← c.self.view_is)
    (sym (kept-in-is c.self.inside.places c.self.inside.functions.items c.self.invariant.paged c.args.cell c.number_in-number.result c.number_in-number.ensures.number c.number_in-number.ensures.same
    ∙ ap (kept_at c.self.inside.functions.items) c.if-number-eq0.true))

pub returns-clause-kept : goal.returns-clause-kept
returns-clause-kept g c =
    rw (← c.self.view_is)
    (c.get.ensures
    ∙ sym (kept-in-is c.self.inside.places c.self.inside.functions.items c.self.invariant.paged c.args.cell c.number_in-number.result c.number_in-number.ensures.number c.number_in-number.ensures.same
    ∙ kept-some c.self.inside.functions.items c.number_in-number.result c.if-number-eq0.false))

pub returns-then-number-eq0-clause-function : goal.returns-then-number-eq0-clause-function
returns-then-number-eq0-clause-function g c =
    let numbers = c.self.inside.places in
    let functions = c.self.inside.functions.items in
    let paged = c.self.invariant.paged in
    rw (← c.self.view_is)
    (λ key is.
    let own = c.number_in-number.ensures.same key (cell-at numbers functions paged key c.args.cell is) in
    sym (function-none numbers functions paged key (sym own ∙ c.if-number-eq0.true)))

pub returns-clause-function : goal.returns-clause-function
returns-clause-function g c =
    let numbers = c.self.inside.places in
    let functions = c.self.inside.functions.items in
    let paged = c.self.invariant.paged in
    rw (← c.self.view_is)
    (λ key is.
    let own = c.number_in-number.ensures.same key (cell-at numbers functions paged key c.args.cell is) in
    c.get.ensures
    ∙ sym (function-is numbers functions paged key ∙ ap (kept_at functions) (sym own)
    ∙ kept-some functions c.number_in-number.result c.if-number-eq0.false))
