use Rattle.std.proofs.Common.{◌∙◌, refl, sym}
use Rattle.std.proofs.lemmas.Result.{on_ok_weaker}
use Rattle.ide_commands.specs.Stored.{is_new, is_old}
use Rattle.ide_commands.proofs.calls.migrate.Goals as goal

pub returns-in-One : goal.returns-in-One
returns-in-One g c =
    on_ok_weaker c.checkpoint.result (λ made. is_old (sym c.version.ensures ∙ c.in-One.is) made) c.checkpoint.ensures

pub returns-in-Two : goal.returns-in-Two
returns-in-Two g c = is_new (sym c.version.ensures ∙ c.in-Two.is) refl
