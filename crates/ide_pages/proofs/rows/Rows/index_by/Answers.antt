use Rattle.std.proofs.Common.{◌<◌, sym, ap, subst, ◌∙◌, length, get_or}
use Rattle.std.proofs.lemmas.Bool.{ltb-true}
use Rattle.ide_pages.proofs.RowsByNumber.{number-at}
use Rattle.ide_pages.proofs.rows.Rows.index_by.Goals as goal

pub returns-then-there-number-clause-index : goal.returns-then-there-number-clause-index
returns-then-there-number-clause-index c =
    let i = c.self.inside in
    let index = c.args.known.index in
    let own = c.in-Some.there.now in
    let keys = c.as_slice.ensures.keys in
    let found = c.in-Some.ensures.lookup in
    rw (← c.self.view_is)
    (sym (number-at i.numbers.keys index c.args.number own c.as_slice.ensures.unique
    (subst (λ xs. index < length xs) keys (ltb-true index (length c.as_slice.result.now) (sym found.0)))
    (ap (λ xs. get_or xs index own) (sym keys) ∙ sym found.1 ∙ c.if-there-number.true)))
