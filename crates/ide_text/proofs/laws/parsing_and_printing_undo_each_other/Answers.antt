use Rattle.ide_text.proofs.RoundTrip.{equal_text, parsed_again, printed_again}
use Rattle.ide_text.proofs.laws.parsing_and_printing_undo_each_other.Goals as goal

pub returns-clause-printed : goal.returns-clause-printed
returns-clause-printed c = parsed_again

pub returns-clause-parsed : goal.returns-clause-parsed
returns-clause-parsed c = printed_again

pub returns-clause-copied : goal.returns-clause-copied
returns-clause-copied c = equal_text
