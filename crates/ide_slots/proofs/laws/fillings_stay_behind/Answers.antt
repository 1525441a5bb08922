use Rattle.ide_slots.proofs.Fillings.{fillings_stay_behind}
use Rattle.ide_slots.proofs.laws.fillings_stay_behind.Goals as goal

pub returns : goal.returns
returns c = fillings_stay_behind
