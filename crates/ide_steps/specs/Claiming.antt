-- What a claim comes to, by what it answers.
use Rattle.std.specs.Prelude.{◌≡◌, ◌≢◌, ℕ, [], true, false, Result, Some, Ok, nat_eq}
use Rattle.ide_graph.specs.Supergraph.{Supergraph}
use Rattle.ide_lattice.specs.Algebra.{EdgeAlgebra}
use Rattle.ide_problem.specs.Flow.{Targets}
use Rattle.ide_tasks.specs.Task.{TaskData}
use Rattle.ide_wire.specs.declared.key.Key.{Key}
use Rattle.ide_image.specs.Worklist.{Pile, PutsClaim, begun, claim_at, ends_key, is_claimed, is_pending}
use Rattle.ide_steps.specs.declared.claim.Claimed.{Claimed}
use Rattle.ide_steps.specs.declared.claim.Claimed.TheVariants.{Task}
use Rattle.ide_steps.specs.Core.{CoreData, IsSameProblem}
use Rattle.ide_steps.specs.Kept.{IsTaskWhere}
use Rattle.ide_steps.specs.Steps.{IsTaken, progress_at}

module _ {F : Type 0} where
  -- all stays but the claim of the hand
  pub record KeepsAllBut (hand : ℕ) (old new : CoreData F) : Type 0 where
    pub stays : IsSameProblem old new
    pub table : new.table ≡ old.table
    pub pending : new.pile.pending ≡ old.pile.pending
    pub changes : new.changes ≡ old.changes
    pub others : (h : ℕ) → nat_eq hand h ≡ false → claim_at new.pile h ≡ claim_at old.pile h

  -- no key is pending
  pub record FindsQuiet (old new : CoreData F) : Type 0 where
    pub quiet : old.pile.pending ≡ []
    pub nothing : new ≡ old

  -- keys are pending, and each is claimed
  pub record FindsIdle (old new : CoreData F) : Type 0 where
    pub waiting : old.pile.pending ≢ []
    pub idle : (q : Key) → is_pending old.pile q ≡ true → is_claimed old.pile q ≡ true
    pub waits : new ≡ old

-- the hand has claimed the task's key, and no part of the task is done
pub record FindsTask {F L : Type 0} (B : EdgeAlgebra F L) (targets : Targets F) (hand : ℕ) (old new : CoreData F) (task : TaskData F) : Type 0 where
  pub fresh : ends_key (claim_at new.pile hand) ≡ true
  pub taken : IsTaken B targets hand old new task
  pub is_task : (graph : Supergraph) → IsTaskWhere B targets graph old task
  pub progress : progress_at new.pile hand ≡ Some (task, 0)

-- P holds of the task that is answered, if one is
abbrev pub IfTask : {Q L F E : Type 0} → Result (Claimed Q L F) E → (TaskData F → Type 0) → Type 0
IfTask {F = F} result P = (task : TaskData F) → result ≡ Ok (Task task) → P task

-- the key is claimed by the hand with the task, of which no part is done
abbrev pub BeginsClaim : {F : Type 0} → ℕ → Key → (old new : Pile (TaskData F)) → TaskData F → Type 0
BeginsClaim hand key old new task = PutsClaim hand (Some (begun key task)) old new
