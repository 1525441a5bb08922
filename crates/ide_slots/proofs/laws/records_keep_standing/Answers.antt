use Rattle.ide_slots.proofs.Writers.{records_keep_standing}
use Rattle.ide_slots.proofs.laws.records_keep_standing.Goals as goal

pub returns : goal.returns
returns c = records_keep_standing
