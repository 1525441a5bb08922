use Rattle.ide_slots.proofs.Gates.{gates_tell}
use Rattle.ide_slots.proofs.laws.gates_tell.Goals as goal

pub returns : goal.returns
returns c = gates_tell
