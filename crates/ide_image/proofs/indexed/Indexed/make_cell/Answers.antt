use Rattle.ide_image.proofs.Columns.{distinct-cells, place-made, widened}
use Rattle.ide_image.proofs.indexed.Indexed.make_cell.Goals as goal

pub returns-clause-cell : goal.returns-clause-cell
returns-clause-cell g c =
    place-made c.cell_for-cell.new.self c.self.inside.functions.items c.cell_count.ensures.paged c.args.key
    c.cell_for-cell.result c.cell_for-cell.ensures.cell

pub returns-clause-widens : goal.returns-clause-widens
returns-clause-widens g c =
    let made = c.cell_for-cell.ensures in
    rw (← c.self.view_is)
    (widened c.self.inside.places c.cell_for-cell.new.self c.self.inside.functions.items c.cell_count.ensures.paged
    made.grows.same made.grows.cells c.args.key made.grows.pages c.self.invariant.paged.absent)

pub returns-clause-distinct : goal.returns-clause-distinct
returns-clause-distinct g c =
    distinct-cells c.cell_for-cell.new.self c.self.inside.functions.items c.cell_count.ensures.paged
