use Rattle.std.proofs.Common.{sym, ◌∙◌}
use Rattle.ide_pages.specs.Pages.{key_at}
use Rattle.ide_pages.proofs.KeyCells.{are-paged}
use Rattle.ide_pages.proofs.Slots.{length-slots}
use Rattle.ide_pages.proofs.pages.Pages.cell_count.Goals as goal

pub returns-clause-count : goal.returns-clause-count
returns-clause-count c =
    rw (← c.self.view_is) (c.len.ensures ∙ sym (length-slots (key_at c.self.inside.pages.items) 0 c.self.inside.cells.items))

pub returns-clause-pages : goal.returns-clause-pages
returns-clause-pages c =
    rw (← c.self.view_is) (c.len.ensures ∙ c.self.invariant.paged)

pub returns-clause-paged : goal.returns-clause-paged
returns-clause-paged c = rw (← c.self.view_is) (are-paged c.self.invariant c.self.inside.cells.most)
