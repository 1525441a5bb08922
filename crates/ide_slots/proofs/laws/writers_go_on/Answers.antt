use Rattle.ide_slots.proofs.Begins.{writers_go_on}
use Rattle.ide_slots.proofs.laws.writers_go_on.Goals as goal

pub returns : goal.returns
returns c = writers_go_on
