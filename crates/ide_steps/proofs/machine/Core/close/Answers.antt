use Rattle.std.proofs.Common.{rules}
use Rattle.ide_steps.specs.CloseRefusal.{no_program, unfinished}
use Rattle.ide_steps.proofs.machine.Core.close.Goals as goal

pub returns-then-is_none-clause-refused : goal.returns-then-is_none-clause-refused
returns-then-is_none-clause-refused g c = no_program (search rules)

pub returns-then-not-is_quiet-clause-refused : goal.returns-then-not-is_quiet-clause-refused
returns-then-not-is_quiet-clause-refused g c = unfinished (search rules) (search rules)
