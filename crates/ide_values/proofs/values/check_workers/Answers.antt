use Rattle.std.proofs.Common.{rules}
use Rattle.ide_values.proofs.Refused.{not_workers}
use Rattle.ide_values.proofs.values.check_workers.Goals as goal

pub returns-then-workers-eq0-clause-refused : goal.returns-then-workers-eq0-clause-refused
returns-then-workers-eq0-clause-refused c = not_workers c.args.workers (search rules)
