use Rattle.std.proofs.Common.{ap, sym, ◌∙◌}
use Rattle.ide_image.specs.Tables.{or_top}
use Rattle.ide_image.proofs.Shown.{found-shown}
use Rattle.ide_image.proofs.keyed_image.KeyedImage.function.Goals as goal

pub returns : goal.returns
returns g c =
    rw (← c.self.view_is)
    (c.function_in.ensures c.args.key c.place.ensures.place
    ∙ ap (or_top g.F.EdgeFn.edge) (sym (found-shown c.self.inside.indexed.cells c.args.key c.self.invariant.distinct)))
