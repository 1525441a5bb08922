use Rattle.ide_slots.proofs.FrontsTell.{fronts_tell_current}
use Rattle.ide_slots.proofs.laws.fronts_tell_current.Goals as goal

pub returns : goal.returns
returns c = fronts_tell_current
