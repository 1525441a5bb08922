use Rattle.ide_pages.proofs.Partners.{are-jumps}
use Rattle.ide_pages.proofs.pages.Pages.pages_of_jumps.Goals as goal

pub returns : goal.returns
returns c =
    rw (← c.self.view_is)
    (record {
      row =
          are-jumps c.self.invariant c.self.inside.cells.most c.args.node c.args.fact c.row.result.now c.ranges.node.fits c.ranges.fact.fits
          (rw (c.row_of.ensures.row) at c.row.ensures.row) c.row.ensures.is;
    })
