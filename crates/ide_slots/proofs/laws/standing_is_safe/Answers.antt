use Rattle.ide_slots.proofs.Standing.{standing_is_safe}
use Rattle.ide_slots.proofs.laws.standing_is_safe.Goals as goal

pub returns : goal.returns
returns c = standing_is_safe
