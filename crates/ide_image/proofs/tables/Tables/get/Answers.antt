use Rattle.std.proofs.Common.{sym, ◌∙◌}
use Rattle.ide_image.proofs.Shown.{found-shown}
use Rattle.ide_image.proofs.tables.Tables.get.Goals as goal

pub returns : goal.returns
returns g c =
    rw (← c.self.view_is)
    (c.function_at.ensures c.args.key c.place.ensures.place ∙ sym (found-shown c.self.inside.indexed.cells c.args.key c.cell_count.ensures.distinct))
