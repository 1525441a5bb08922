use Rattle.ide_text.proofs.ProgramLemmas.{checked_within}
use Rattle.ide_text.proofs.checker.check.Goals as goal

pub returns-clause-lines : goal.returns-clause-lines
returns-clause-lines c = checked_within c.args.draft.now c.check_lines.result c.check_lines.ensures
