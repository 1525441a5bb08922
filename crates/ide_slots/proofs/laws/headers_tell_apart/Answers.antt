use Rattle.ide_slots.proofs.Heads.{headers_tell_apart}
use Rattle.ide_slots.proofs.laws.headers_tell_apart.Goals as goal

pub returns : goal.returns
returns c = headers_tell_apart
