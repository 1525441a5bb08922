use Rattle.ide_slots.proofs.Rows.{worked_row}
use Rattle.ide_slots.proofs.laws.worked_row.Goals as goal

pub returns : goal.returns
returns c = worked_row
