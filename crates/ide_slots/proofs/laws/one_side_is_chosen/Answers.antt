use Rattle.ide_slots.proofs.Chosen.{one_side_is_chosen}
use Rattle.ide_slots.proofs.laws.one_side_is_chosen.Goals as goal

pub returns : goal.returns
returns c = one_side_is_chosen
