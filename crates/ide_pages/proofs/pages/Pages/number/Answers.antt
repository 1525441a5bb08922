use Rattle.std.proofs.Common.{sym}
use Rattle.ide_pages.proofs.KeyCells.{number-found}
use Rattle.ide_pages.proofs.pages.Pages.number.Goals as goal

pub returns : goal.returns
returns c =
    rw (c.number_of.ensures, c.cell_near-cell.ensures.cell, c.deref.ensures.value, c.page_of.ensures.page, c.offset_of.ensures.offset, ← c.self.view_is)
    (sym (number-found c.self.invariant c.args.key))
