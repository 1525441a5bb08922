use Rattle.std.proofs.Common.{◌≡◌, arith, ap, sym, ◌∙◌, ⊎_elim}
use Rattle.std.proofs.lemmas.Bool.{cases_eq}
use Rattle.ide_image.specs.Cells.{function_shown_in, tables_of}
use Rattle.ide_image.specs.Indexed.{kept_in}
use Rattle.ide_image.proofs.Columns.{kept-in-is, shown-function}
use Rattle.ide_image.proofs.indexed.Indexed.alike_to.Goals as goal

pub returns-clause-alike : goal.returns-clause-alike
returns-clause-alike g c =
    let places = c.self.inside.places in
    let functions = c.self.inside.functions.items in
    let cells = c.args.self.now.cells in
    let first = c.number_in-number.ensures in
    λ cell least less.
    ⊎_elim
    (λ e. ap (function_shown_in (tables_of c.args.self.now)) e)
    (λ ne.
    let alike = c.alike_to.ensures.alike cell (omega (arith, least, ne)) less in
    let same : kept_in cells cell ≡ kept_in cells c.args.cell =
    rw (← c.self.view_is)
    (kept-in-is places functions c.self.invariant.paged cell c.number_in-number.result (sym alike.0) alike.1
    ∙ sym (kept-in-is places functions c.self.invariant.paged c.args.cell c.number_in-number.result first.number first.same)) in
    sym (shown-function cells cell) ∙ same ∙ shown-function cells c.args.cell)
    (cases_eq cell c.args.cell)
