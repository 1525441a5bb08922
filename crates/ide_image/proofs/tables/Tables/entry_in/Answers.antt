use Rattle.std.proofs.Common.{◌∙◌}
use Rattle.ide_image.proofs.Columns.{shown-at}
use Rattle.ide_image.proofs.Shown.{found-each}
use Rattle.ide_image.proofs.tables.Tables.entry_in.Goals as goal

pub returns-clause-entry : goal.returns-clause-entry
returns-clause-entry g c = rw (← c.self.view_is) (c.entry_at.ensures.entry ∙ shown-at c.self.inside.indexed.cells c.args.cell)

pub returns-clause-present : goal.returns-clause-present
returns-clause-present g c =
    rw (← c.self.view_is) (found-each c.self.inside.indexed.cells c.entry_at.result c.cell_count.ensures.distinct c.entry_at.ensures.present)
