use Rattle.ide_store.proofs.Writing.{writes_store}
use Rattle.ide_store.proofs.laws.journals_write_stores.Goals as goal

pub returns : goal.returns
returns g c = λ head records stored. writes_store g.D.Disk head records stored
