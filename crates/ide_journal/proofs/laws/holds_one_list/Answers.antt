use Rattle.ide_journal.proofs.OneList.{holds_one_list}
use Rattle.ide_journal.proofs.laws.holds_one_list.Goals as goal

pub returns : goal.returns
returns c = holds_one_list
