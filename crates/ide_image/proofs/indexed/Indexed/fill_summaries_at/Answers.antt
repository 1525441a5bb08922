use Rattle.std.proofs.Common.{sym, subst}
use Rattle.ide_wire.specs.declared.key.Key.TheVariants.{Summary}
use Rattle.ide_pages.specs.Pages.{read_blocks}
use Rattle.ide_image.specs.Tables.{ArePartners}
use Rattle.ide_image.specs.Indexed.{cells_by, table_of}
use Rattle.ide_image.proofs.Columns.{are-partners}
use Rattle.ide_image.proofs.indexed.Indexed.fill_summaries_at.Goals as goal

pub returns-clause-partners : goal.returns-clause-partners
returns-clause-partners g c =
    let numbers = c.self.inside.places in
    let functions = c.self.inside.functions.items in
    let are = c.self.invariant in
    rw (← c.self.view_is)
    (subst (ArePartners (Summary c.args.call c.args.fact) (table_of (cells_by numbers functions))) (sym c.in_ok-fill_from_blocks.ensures)
    (are-partners numbers functions are.paged are.kept g.F.EdgeFn.edge.all_top (Summary c.args.call c.args.fact) (read_blocks numbers c.pages_of_summaries-pages.result.now)
    c.pages_of_summaries-pages.ensures.row))
