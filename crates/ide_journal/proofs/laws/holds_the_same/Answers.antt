use Rattle.ide_journal.proofs.OneList.{holds_the_same}
use Rattle.ide_journal.proofs.laws.holds_the_same.Goals as goal

pub returns : goal.returns
returns c = holds_the_same
