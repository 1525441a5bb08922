use Rattle.ide_batch.proofs.Folding.{lead}
use Rattle.ide_batch.proofs.laws.batches_lead.Goals as goal

pub returns : goal.returns
returns g c = lead
