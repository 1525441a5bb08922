use Rattle.ide_text.proofs.OneFault.{parsed_has_none}
use Rattle.ide_text.proofs.laws.parsed_have_no_fault.Goals as goal

pub returns : goal.returns
returns c = parsed_has_none
