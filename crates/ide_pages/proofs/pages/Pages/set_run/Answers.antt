use Rattle.std.proofs.Common.{◌+◌, arith}
use Rattle.ide_pages.proofs.KeyCells.{run-few, run-puts, run-written, there-in}
use Rattle.ide_pages.proofs.pages.Pages.set_run.Goals as goal

pub write_run-requires-clause-there : goal.write_run-requires-clause-there
write_run-requires-clause-there c = there-in c.self.inside.pages.items c.self.inside.cells.items (c.args.cell + c.args.count) (rw (← c.self.view_is) at c.requires.there)

pub overflow_add-self : goal.overflow_add-self
overflow_add-self c =
    let there = there-in c.self.inside.pages.items c.self.inside.cells.items (c.args.cell + c.args.count) (rw (← c.self.view_is) at c.requires.there) in
    let few = run-few c.self.invariant c.args.cell c.args.number c.args.count c.requires.some there (rw (← c.self.view_is) at c.requires.absent) in
    omega (arith, few)

pub invariant_of-self : goal.invariant_of-self
invariant_of-self c =
    let there = there-in c.self.inside.pages.items c.self.inside.cells.items (c.args.cell + c.args.count) (rw (← c.self.view_is) at c.requires.there) in
    rw (c.write_run.ensures.items)
    (run-written c.self.invariant c.args.cell c.args.number c.args.count c.requires.some there (rw (← c.self.view_is) at c.requires.absent) c.args.count (omega arith))

pub returns-clause-puts : goal.returns-clause-puts
returns-clause-puts c =
    let there = there-in c.self.inside.pages.items c.self.inside.cells.items (c.args.cell + c.args.count) (rw (← c.self.view_is) at c.requires.there) in
    rw (← c.self.view_is, c.write_run.ensures.items, c.write_run.ensures.most)
    (run-puts c.self.invariant c.args.cell c.args.number c.args.count c.requires.some there (rw (← c.self.view_is) at c.requires.absent) c.self.inside.cells.most c.args.count (omega arith))
