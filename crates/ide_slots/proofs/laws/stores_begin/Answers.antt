use Rattle.ide_slots.proofs.Begins.{stores_begin}
use Rattle.ide_slots.proofs.laws.stores_begin.Goals as goal

pub returns : goal.returns
returns c = stores_begin
