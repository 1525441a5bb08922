use Rattle.std.proofs.Common.{rules}
use Rattle.ide_steps.specs.DrainRefusal.{busy, no_program, unfinished}
use Rattle.ide_steps.proofs.machine.Core.may_drain.Goals as goal

pub returns-then-is_none-clause-refused : goal.returns-then-is_none-clause-refused
returns-then-is_none-clause-refused g c = no_program (search rules)

pub returns-then-is_some-clause-refused : goal.returns-then-is_some-clause-refused
returns-then-is_some-clause-refused g c = busy (search rules) (search rules)

pub returns-then-claimed_elsewhere-clause-refused : goal.returns-then-claimed_elsewhere-clause-refused
returns-then-claimed_elsewhere-clause-refused g c =
    let other = c.claimed_elsewhere.ensures.some c.if-claimed_elsewhere.true in
    unfinished (search rules) (search rules) other.0 other.1 (rw (← c.self.view_is) other.2)
