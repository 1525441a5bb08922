use Rattle.std.proofs.Common.{refl, ap, ◌≡◌, ◌+◌, ◌*◌, Some}
use Rattle.std.specs.Option.{option_map}
use Rattle.ide_pages.specs.Pages.{cell_of}
use Rattle.ide_pages.proofs.Places.{found-at}
use Rattle.ide_pages.proofs.pages.Pages.cell_for.Goals as goal

-- the page stands at that index, and nowhere else
near : (c : goal.Then-is_page_at) → cell_of c.args.self.now c.args.key ≡ Some (64 * c.self.inside.last + c.offset_of-offset.result)
near c =
    rw (← c.self.view_is, ← c.page_of-page.ensures.page, ← c.offset_of-offset.ensures.offset)
    (ap (option_map (λ index. 64 * index + c.offset_of-offset.result))
    (found-at c.self.inside.pages.items c.self.inside.last c.page_of-page.result c.self.invariant.distinct
    (rw (c.deref.ensures.value) at (c.is_page_at.ensures c.if-is_page_at.true))))

pub returns-then-is_page_at-clause-cell : goal.returns-then-is_page_at-clause-cell
returns-then-is_page_at-clause-cell c = near c

pub returns-then-is_page_at-clause-there : goal.returns-then-is_page_at-clause-there
returns-then-is_page_at-clause-there c = rw (near c) refl
