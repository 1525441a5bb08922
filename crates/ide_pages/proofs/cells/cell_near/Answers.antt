use Rattle.std.proofs.Common.{ap, sym, ◌+◌, ◌*◌}
use Rattle.std.specs.Option.{option_map}
use Rattle.ide_pages.proofs.Places.{found-at}
use Rattle.ide_pages.proofs.cells.cell_near.Goals as goal

-- the page stands at that index, and nowhere else
pub returns-then-is_page_at : goal.returns-then-is_page_at
returns-then-is_page_at c = record {
  cell = sym (ap (option_map (λ index. 64 * index + c.args.offset)) (found-at c.args.pages.now c.args.last c.args.page c.requires.distinct (c.is_page_at.ensures c.if-is_page_at.true)));
}
