use Rattle.ide_slots.proofs.OneSlot.{holds_one_slot}
use Rattle.ide_slots.proofs.laws.holds_one_slot.Goals as goal

pub returns : goal.returns
returns c = holds_one_slot
