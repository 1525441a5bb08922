use Rattle.std.proofs.Common.{rules}
use Rattle.ide_values.proofs.Refused.{wants_memory}
use Rattle.ide_values.proofs.values.ValuePhase.values_with.Goals as goal

pub returns-in_err-values_by-clause-refused : goal.returns-in_err-values_by-clause-refused
returns-in_err-values_by-clause-refused g c =
    wants_memory c.args.workers c.from_residual-in_err-values_by.result c.in_ok-check_workers.ensures.workers (search rules)

pub returns-clause-best : goal.returns-clause-best
returns-clause-best g c = rw (← c.image.ensures) c.in_ok-values_by.ensures.best
