use Rattle.std.proofs.Common.{◌≡◌, ◌∙◌, ap, arith, length, subst}
use Rattle.std.proofs.lemmas.Grind.{get_or_default_zero}
use Rattle.std.specs.Prelude.{slice_index}
use Rattle.std.proofs.lemmas.Bool.Decides.{nat_tests}
use Rattle.ide_pages.specs.Pages.{offset_of}
use Rattle.ide_image.specs.Cells.{BeginsWith, tables_of}
use Rattle.ide_image.proofs.Rows.{row-numbered}
use Rattle.ide_image.proofs.grid.Grid.row_number.Goals as goal

pub returns-clause-number : goal.returns-clause-number
returns-clause-number g c =
    let indexed = c.args.indexed.now in
    let pages = c.args.self.now in
    let key = c.in_ok-key.key in
    let same = ap length c.self.view_is in
    let begins : BeginsWith (tables_of indexed) (slice_index pages c.args.row) key =
    subst (λ page. BeginsWith (tables_of indexed) page key)
    (c.index.ensures ∙ get_or_default_zero c.self.inside.pages.items c.args.row c.index.result.now (omega (arith, same, c.requires.there))
    ∙ ap (λ pages. slice_index pages c.args.row) c.self.view_is)
    c.in_ok-key.ensures.first in
    let whole : offset_of key ≡ 0 = grind (arith, nat_tests, c.offset_of.ensures.offset, c.if-offset_of-ne0.false) in
    row-numbered indexed pages c.args.row key c.number_of.result c.requires.there begins whole c.number_of.ensures
