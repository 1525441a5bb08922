use Rattle.ide_slots.proofs.OneCurrent.{one_slot_is_current}
use Rattle.ide_slots.proofs.laws.one_slot_is_current.Goals as goal

pub returns : goal.returns
returns c = one_slot_is_current
