use Rattle.ide_text.proofs.OneProgram.{one_program}
use Rattle.ide_text.proofs.laws.spell_one_program.Goals as goal

pub returns : goal.returns
returns c = one_program
