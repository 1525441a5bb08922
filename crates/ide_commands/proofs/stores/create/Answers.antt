use Rattle.ide_commands.proofs.Told.{is_made}
use Rattle.ide_commands.proofs.stores.create.Goals as goal

pub returns : goal.returns
returns g c = λ first second. is_made _ c.create.result c.engine_of.result c.engine_of.ensures (c.create.ensures.made first second)
