use Rattle.ide_slots.proofs.Fillings.{checkpoints_have_calls}
use Rattle.ide_slots.proofs.laws.checkpoints_have_calls.Goals as goal

pub returns : goal.returns
returns c = checkpoints_have_calls
