use Rattle.std.proofs.Common.{ap, arith, rules, ◌∙◌, ◌≡◌, false}
use Rattle.std.proofs.lemmas.Grind.{common_steps}
use Rattle.std.specs.List.{list_any}
use Rattle.ide_wire.specs.Key.{same_key}
use Rattle.ide_pages.specs.Pages.{entries}
use Rattle.ide_pages.proofs.Growth.{absent-page, are-grown, cell-grown, entries-grown}
use Rattle.ide_pages.proofs.pages.Pages.cell_on_new_page.Goals as goal

-- the page of a key that has no cell is a new one
absent : (c : goal.After-self-1) → list_any (same_key c.page_of-page.result) c.self.inside.pages.items ≡ false
absent c =
    absent-page c.self.inside.pages.items c.offset_of-offset.result c.page_of-page.result
    (rw (← c.self.view_is, ← c.page_of-page.ensures.page, ← c.offset_of-offset.ensures.offset) at c.requires.absent)

pub invariant_of-self-2 : goal.invariant_of-self-2
invariant_of-self-2 c =
    are-grown c.self.invariant c.page_of-page.result c.add_page.new.pages.items c.add_page.new.cells.items
    c.in_ok-index.ensures.pages c.in_ok-index.ensures.cells
    c.add_page.new.rows c.in_ok-index.index c.page_of-page.ensures.is c.page_of-page.ensures.small (absent c)
    c.in_ok-index.ensures.index c.in_ok-index.ensures.few
    c.in_ok-index.ensures.rows

pub returns-clause-cell : goal.returns-clause-cell
returns-clause-cell c =
    cell-grown c.self.invariant c.page_of-page.result c.add_page.new.pages.items c.add_page.new.cells.items
    c.in_ok-index.ensures.pages c.in_ok-index.ensures.cells
    c.args.key c.in_ok-index.index c.offset_of-offset.result c.page_of-page.ensures.page (absent c) c.in_ok-index.ensures.index c.offset_of-offset.ensures.offset

pub returns-clause-grows : goal.returns-clause-grows
returns-clause-grows c = record {
  same =
      entries-grown c.self.invariant c.page_of-page.result c.add_page.new.pages.items c.add_page.new.cells.items
      c.in_ok-index.ensures.pages c.in_ok-index.ensures.cells
      ∙ ap entries c.self.view_is;
  cells = grind (arith, common_steps);
  pages = search rules;
  most = search rules;
  within = grind (arith, common_steps);
}
