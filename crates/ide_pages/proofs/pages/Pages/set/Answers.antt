use Rattle.ide_pages.proofs.KeyCells.{are-written, in-cells, puts, weight-few, weight-within}
use Rattle.ide_pages.proofs.pages.Pages.set.Goals as goal

pub replace-old-requires-clause-there : goal.replace-old-requires-clause-there
replace-old-requires-clause-there c =
    in-cells c.self.invariant c.args.key c.args.cell c.args.number (rw (← c.self.view_is) at c.requires.cell)

pub counted-self-inside-requires-clause-within : goal.counted-self-inside-requires-clause-within
counted-self-inside-requires-clause-within c =
    weight-within c.self.invariant c.args.key c.args.cell c.args.number (rw (← c.self.view_is) at c.requires.cell) c.replace-old.result c.replace-old.ensures.old

pub counted-self-inside-requires-clause-few : goal.counted-self-inside-requires-clause-few
counted-self-inside-requires-clause-few c =
    weight-few c.self.invariant c.args.key c.args.cell c.args.number (rw (← c.self.view_is) at c.requires.cell) c.replace-old.result c.replace-old.ensures.old

pub invariant_of-self : goal.invariant_of-self
invariant_of-self c =
    rw (c.replace-old.ensures.items)
    (are-written c.self.invariant c.args.key c.args.cell c.args.number (rw (← c.self.view_is) at c.requires.cell) c.replace-old.result c.replace-old.ensures.old
    c.counted-self-inside.result c.counted-self-inside.ensures)

pub returns-clause-puts : goal.returns-clause-puts
returns-clause-puts c =
    rw (← c.self.view_is, c.replace-old.ensures.items, c.replace-old.ensures.most)
    (puts c.self.invariant c.args.key c.args.cell c.args.number (rw (← c.self.view_is) at c.requires.cell) c.self.inside.cells.most)
