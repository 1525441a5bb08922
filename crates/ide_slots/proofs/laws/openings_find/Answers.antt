use Rattle.ide_slots.proofs.Openings.{openings_find}
use Rattle.ide_slots.proofs.laws.openings_find.Goals as goal

pub returns : goal.returns
returns c = openings_find
