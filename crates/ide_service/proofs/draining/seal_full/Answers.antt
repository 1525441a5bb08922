use Rattle.ide_service.specs.Holds.{batch_not_sealed}
use Rattle.ide_service.proofs.draining.seal_full.Goals as goal

pub returns-in-Err-clause-refused : goal.returns-in-Err-clause-refused
returns-in-Err-clause-refused g c = batch_not_sealed (c.args.table.now.half, c.in-Err.ensures.refused)
