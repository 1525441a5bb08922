use Rattle.ide_slots.proofs.Fillings.{fillings_go_on}
use Rattle.ide_slots.proofs.laws.fillings_go_on.Goals as goal

pub returns : goal.returns
returns c = fillings_go_on
