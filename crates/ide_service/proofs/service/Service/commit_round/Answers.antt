use Rattle.std.proofs.Math.Logic.{∥∥₁_map}
use Rattle.ide_desks.specs.Stepping.{IsStepRefusal}
use Rattle.ide_service.specs.Storing.{IsCommitRefusal, not_stored}
use Rattle.ide_service.proofs.Loops.{if_err}
use Rattle.ide_service.proofs.service.Service.commit_round.Goals as goal

pub returns-in-Err-clause-refused : goal.returns-in-Err-clause-refused
returns-in-Err-clause-refused g c told = ∥∥₁_map (c.in-Err.ensures.refused told) (λ step. not_stored step)

pub returns-clause-refused : goal.returns-clause-refused
returns-clause-refused g c told =
    if_err c.store_all-2.result (λ why. ∥ IsStepRefusal why ∥₁) (λ why. ∥ IsCommitRefusal why ∥₁) (λ why step. ∥∥₁_map step (λ one. not_stored one))
    (c.store_all-2.ensures.refused told)
