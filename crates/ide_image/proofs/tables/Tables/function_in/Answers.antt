use Rattle.std.proofs.Common.{◌∙◌}
use Rattle.ide_image.proofs.Columns.{shown-function}
use Rattle.ide_image.proofs.tables.Tables.function_in.Goals as goal

pub returns : goal.returns
returns g c = rw (← c.self.view_is) (c.kept_in.ensures.kept ∙ shown-function c.self.inside.indexed.cells c.args.cell)
