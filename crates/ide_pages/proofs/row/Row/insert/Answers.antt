use Rattle.std.proofs.Common.{arith}
use Rattle.ide_pages.proofs.RowLemmas.{lists-insert, row-insert}
use Rattle.ide_pages.proofs.row.Row.insert.Goals as goal

pub invariant_of-self-2 : goal.invariant_of-self-2
invariant_of-self-2 c =
    rw c.in_ok-insert.ensures.items
    (row-insert c.args.fact c.args.page c.self.inside.pages.items c.args.place (omega (arith, c.ranges.fact)) c.self.invariant
    (rw (← c.self.view_is) at c.requires.place) (rw (← c.self.view_is) at c.requires.absent))

pub returns-clause-lists : goal.returns-clause-lists
returns-clause-lists c =
    rw (c.in_ok-insert.ensures.items, ← c.self.view_is)
    (lists-insert c.args.fact c.args.page c.self.inside.pages.items c.args.place (rw (← c.self.view_is) at c.requires.absent))
