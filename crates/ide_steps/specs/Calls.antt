-- That the calls of hands are steps of a tabulation, in whatever order they are made.
use Rattle.std.specs.Prelude.{◌≡◌, ℕ, [], None, Some, IsSome}
use Rattle.ide_graph.specs.Exits.{AreExitsOwned}
use Rattle.ide_graph.specs.Supergraph.{Supergraph}
use Rattle.ide_lattice.specs.Algebra.{LatticeAlgebra, EdgeAlgebra}
use Rattle.ide_problem.specs.Flow.{Targets}
use Rattle.ide_image.specs.Tables.{found}
use Rattle.ide_tasks.specs.Parts.{owed}
use Rattle.ide_tasks.specs.Task.{TaskData}
use Rattle.ide_tasks.specs.Work.{WorkData}
use Rattle.ide_theory.specs.State.{finished, with_claim}
use Rattle.ide_image.specs.Worklist.{claim_at}
use Rattle.ide_image.specs.declared.claim.Claim.{Claim as Held}
use Rattle.ide_steps.specs.Core.{CoreData, IsSameProblem}
use Rattle.ide_steps.specs.Going.{GoesOnByHand}
use Rattle.ide_steps.specs.State.{IsTaskOf, claim_of, state_of}
use Rattle.ide_steps.specs.Steps.{IsLowered, IsSkipped, IsTaken, progress_at}

module _ {F L : Type 0} (A : LatticeAlgebra L) (B : EdgeAlgebra F L) (targets : Targets F) where
  -- what each call says of the core before and after it makes it one step of its hand: a claim, a part that
  -- lowers its key, one that changes nothing, the end of a claim, and a claim that is given back
  pub record CallsAreSteps : Type 0 where
    pub claim : (hand : ℕ) (old new : CoreData F) (task : TaskData F) → IsSameProblem old new → IsTaken B targets hand old new task
        → ((graph : Supergraph) → old.graph ≡ Some graph → AreExitsOwned graph → IsSome (found old.table task.key) → IsTaskOf B targets graph old.table task)
        → GoesOnByHand A B targets hand 1 0 0 old new
    pub lower : (hand : ℕ) (old new : CoreData F) (work after : WorkData F) (task : TaskData F) → IsSameProblem old new
        → progress_at old.pile hand ≡ Some (task, work.done) → work.parts ≡ owed B targets task
        → IsLowered B (state_of B targets old) (state_of B targets new) hand work after
        → GoesOnByHand A B targets hand 0 1 0 old new
    pub skip : (hand : ℕ) (old new : CoreData F) (work after : WorkData F) (task : TaskData F) → IsSameProblem old new
        → progress_at old.pile hand ≡ Some (task, work.done) → work.parts ≡ owed B targets task
        → IsSkipped B (state_of B targets old) (state_of B targets new) hand work after
        → GoesOnByHand A B targets hand 0 0 0 old new
    pub finish : (hand : ℕ) (old new : CoreData F) (held : Held (TaskData F)) → IsSameProblem old new
        → claim_at old.pile hand ≡ Some held → (claim_of B targets held).parts ≡ []
        → state_of B targets new ≡ finished (state_of B targets old) hand (claim_of B targets held)
        → GoesOnByHand A B targets hand 0 0 0 old new
    pub release : (hand : ℕ) (old new : CoreData F) (held : Held (TaskData F)) → IsSameProblem old new
        → claim_at old.pile hand ≡ Some held → state_of B targets new ≡ with_claim (state_of B targets old) hand None
        → GoesOnByHand A B targets hand 0 0 1 old new
