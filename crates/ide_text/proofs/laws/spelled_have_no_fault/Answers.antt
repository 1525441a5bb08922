use Rattle.ide_text.proofs.Unique.{spelled_has_none}
use Rattle.ide_text.proofs.laws.spelled_have_no_fault.Goals as goal

pub returns : goal.returns
returns c = spelled_has_none
