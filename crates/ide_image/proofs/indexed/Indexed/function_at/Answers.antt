use Rattle.std.proofs.Common.{sym, ap, ◌∙◌}
use Rattle.std.specs.Option.{option_flatten}
use Rattle.ide_image.proofs.Places.{none-at}
use Rattle.ide_image.proofs.indexed.Indexed.function_at.Goals as goal

pub returns-then-place-eq0 : goal.returns-then-place-eq0
returns-then-place-eq0 g c =
    λ key is. sym (ap option_flatten (none-at key c.args.self.now.cells (sym is ∙ c.if-place-eq0.true)))
