use Rattle.ide_image.proofs.Columns.{distinct-cells}
use Rattle.ide_image.proofs.indexed.Indexed.cell_count.Goals as goal

pub returns-clause-distinct : goal.returns-clause-distinct
returns-clause-distinct g c = rw (← c.self.view_is) (distinct-cells c.self.inside.places c.self.inside.functions.items c.self.invariant.paged)
