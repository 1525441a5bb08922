use Rattle.ide_slots.proofs.Turning.{sides_are_chosen}
use Rattle.ide_slots.proofs.laws.sides_are_chosen.Goals as goal

pub returns : goal.returns
returns c = sides_are_chosen
