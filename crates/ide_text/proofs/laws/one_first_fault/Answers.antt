use Rattle.ide_text.proofs.Unique.{FirstFault-one}
use Rattle.ide_text.proofs.laws.one_first_fault.Goals as goal

pub returns : goal.returns
returns c = FirstFault-one
