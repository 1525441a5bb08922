use Rattle.ide_batch.proofs.Imaged.{has_nothing}
use Rattle.ide_batch.proofs.laws.new_cores_are_empty.Goals as goal

pub returns : goal.returns
returns g c = has_nothing
