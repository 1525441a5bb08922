use Rattle.ide_slots.proofs.Whole.{fillings_end_whole}
use Rattle.ide_slots.proofs.laws.fillings_end_whole.Goals as goal

pub returns : goal.returns
returns c = fillings_end_whole
