use Rattle.ide_pages.proofs.Blocks.{are-blocks, are-summaries}
use Rattle.ide_pages.proofs.pages.Pages.pages_of_summaries.Goals as goal

pub returns-clause-row : goal.returns-clause-row
returns-clause-row c =
    rw (← c.self.view_is)
    (are-summaries c.self.invariant c.args.call c.args.fact c.row.result.now c.ranges.call.fits c.ranges.fact.fits
    (rw (c.row_of.ensures.row) at c.row.ensures.row) c.row.ensures.is c.self.inside.cells.most)

pub returns-clause-few : goal.returns-clause-few
returns-clause-few c =
    are-blocks c.self.invariant c.args.call c.args.fact c.row.result.now c.ranges.call.fits c.ranges.fact.fits
    (rw (c.row_of.ensures.row) at c.row.ensures.row) c.row.ensures.is
