use Rattle.std.proofs.Common.{◌%◌, sym, subst}
use Rattle.ide_wire.specs.declared.key.Key.TheVariants.{Jump}
use Rattle.ide_pages.specs.Pages.{read_at}
use Rattle.ide_image.specs.Tables.{ArePartners}
use Rattle.ide_image.specs.Indexed.{cells_by, table_of}
use Rattle.ide_image.proofs.Columns.{are-partners}
use Rattle.ide_image.proofs.indexed.Indexed.fill_jumps_at.Goals as goal

pub returns-clause-partners : goal.returns-clause-partners
returns-clause-partners g c =
    let numbers = c.self.inside.places in
    let functions = c.self.inside.functions.items in
    let are = c.self.invariant in
    rw (← c.self.view_is)
    (subst (ArePartners (λ d. Jump c.args.node d c.args.fact) (table_of (cells_by numbers functions))) (sym c.in_ok-fill_partners.ensures)
    (are-partners numbers functions are.paged are.kept g.F.EdgeFn.edge.all_top (λ d. Jump c.args.node d c.args.fact) (read_at numbers (c.args.node % 64) c.pages_of_jumps-pages.result.now)
    c.pages_of_jumps-pages.ensures.row))
