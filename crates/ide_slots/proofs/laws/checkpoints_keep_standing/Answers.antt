use Rattle.ide_slots.proofs.Checkpoints.{checkpoints_keep_standing}
use Rattle.ide_slots.proofs.laws.checkpoints_keep_standing.Goals as goal

pub returns : goal.returns
returns c = checkpoints_keep_standing
