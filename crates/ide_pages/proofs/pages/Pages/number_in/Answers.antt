use Rattle.std.proofs.Common.{sym}
use Rattle.ide_pages.proofs.KeyCells.{number-in-cell, number-of-cell}
use Rattle.ide_pages.proofs.pages.Pages.number_in.Goals as goal

pub returns-clause-number : goal.returns-clause-number
returns-clause-number c =
    rw (c.get.ensures, ← c.self.view_is)
    (sym (number-in-cell c.self.invariant c.args.cell))

pub returns-clause-same : goal.returns-clause-same
returns-clause-same c =
    rw (c.get.ensures, ← c.self.view_is)
    (λ key is. number-of-cell c.self.invariant key c.args.cell is)
