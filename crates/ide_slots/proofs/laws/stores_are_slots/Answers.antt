use Rattle.ide_slots.proofs.FirstSlots.{stores_are_slots}
use Rattle.ide_slots.proofs.laws.stores_are_slots.Goals as goal

pub returns : goal.returns
returns c = stores_are_slots
