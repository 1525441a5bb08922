-- Why a hand's work does not go on, and why it is not finished.
use Rattle.std.specs.Prelude.{ℕ, ◌<◌, ◌≤◌, IsSome, length}
use Rattle.ide_lattice.specs.Algebra.{EdgeAlgebra}
use Rattle.ide_problem.specs.Flow.{Targets}
use Rattle.ide_tasks.specs.Work.{WorkData}
use Rattle.ide_wire.specs.declared.refused.Refused.{Refused}
use Rattle.ide_wire.specs.declared.refused.Refused.TheVariants.{NoMemory, Stale}
use Rattle.ide_image.specs.Worklist.{claim_at}
use Rattle.ide_steps.specs.Core.{CoreData}
use Rattle.ide_steps.specs.Steps.{IsClaimOfWork, IsCurrent}

module _ {F L : Type 0} (B : EdgeAlgebra F L) (targets : Targets F) (core : CoreData F) (hand : ℕ) (work : WorkData F) where
  -- why no part is done: the work is not the hand's claim as it stands; or it is, and a part is left, and memory is wanting
  pub data IsPartRefusal : Refused → Type 0 where
    stale : ¬ (IsClaimOfWork work (claim_at core.pile hand)) → IsPartRefusal Stale
    memory : IsCurrent B targets core hand work → work.done < length work.parts → IsPartRefusal NoMemory

  -- why the claim is not finished: the work is not the hand's claim as it stands, or a part is left; or it is, and none is
  -- left, and memory is wanting for a note of the key's entry
  pub data IsFinishRefusal : Refused → Type 0 where
    other : ¬ (IsClaimOfWork work (claim_at core.pile hand)) → IsFinishRefusal Stale
    left : IsClaimOfWork work (claim_at core.pile hand) → work.done < length work.parts → IsFinishRefusal Stale
    wanting : IsCurrent B targets core hand work → length work.parts ≤ work.done → IsSome core.changes → IsFinishRefusal NoMemory
