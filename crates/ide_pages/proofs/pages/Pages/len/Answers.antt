use Rattle.ide_pages.specs.Pages.{key_at}
use Rattle.ide_pages.proofs.KeyCells.{distinct-keys}
use Rattle.ide_pages.proofs.Slots.{all-nonzero}
use Rattle.ide_pages.proofs.pages.Pages.len.Goals as goal

pub returns-clause-distinct : goal.returns-clause-distinct
returns-clause-distinct c =
    rw (← c.self.view_is)
    (distinct-keys c.self.invariant)

pub returns-clause-nonzero : goal.returns-clause-nonzero
returns-clause-nonzero c = rw (← c.self.view_is) (all-nonzero (key_at c.self.inside.pages.items) 0 c.self.inside.cells.items)
