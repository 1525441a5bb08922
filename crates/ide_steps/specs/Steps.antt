-- What the calls of a core do to its state, told as steps of a tabulation.
use Rattle.std.specs.Prelude.{◌≡◌, ◌≢◌, ℕ, ◌+◌, ◌<◌, true, [], Option, Some, None, if◌then◌else◌, length, nat_eq, option_map, slice_get, unwrap_or}
use Rattle.ide_lattice.specs.Algebra.{EdgeAlgebra}
use Rattle.ide_problem.specs.Flow.{Targets}
use Rattle.ide_tasks.specs.Parts.{owed}
use Rattle.ide_tasks.specs.Task.{TaskData}
use Rattle.ide_tasks.specs.Work.{WorkData}
use Rattle.ide_theory.specs.Invariant.{unclaimed}
use Rattle.ide_theory.specs.State.{State, finished, with_lowered, new_claim, part_done, with_claim}
use Rattle.ide_wire.specs.declared.key.Key.{Key}
use Rattle.ide_image.specs.Worklist.{Pile, claim_at, is_pending}
use Rattle.ide_image.specs.declared.claim.Claim.{Claim as Held}
use Rattle.ide_steps.specs.Core.{AreInside, CoreData}
use Rattle.ide_steps.specs.State.{claim_of, state_of}

module _ {F : Type 0} where
  -- what a claim is of, and how many of its parts are done
  abbrev pub progress_of : Option (Held (TaskData F)) → Option (TaskData F × ℕ)
  progress_of claim = option_map (λ held. (held.task, held.done)) claim

  -- what the hand works on, and how many of its parts are done
  abbrev pub progress_at : Pile (TaskData F) → ℕ → Option (TaskData F × ℕ)
  progress_at pile hand = progress_of (claim_at pile hand)

  -- the claim is of the work's task, with as many parts done
  abbrev pub IsClaimOfWork : WorkData F → Option (Held (TaskData F)) → Type 0
  IsClaimOfWork work claim = progress_of claim ≡ Some (work.task, work.done)

  -- each hand works on what it did, with as many parts done
  abbrev pub SameTasks : (old new : Pile (TaskData F)) → Type 0
  SameTasks old new = (h : ℕ) → progress_at new h ≡ progress_at old h

  -- each hand works on the task that it had: this one has so many parts of it done, any other as many as it had
  abbrev pub KeepTasks : ℕ → ℕ → (old new : Pile (TaskData F)) → Type 0
  KeepTasks hand done old new = (h : ℕ)
      → progress_at new h ≡ (if nat_eq hand h then option_map (λ at. (at.0, done)) (progress_at old h) else progress_at old h)

  -- the fact holds, where the hand works on a task of which as many parts are done as of the work
  abbrev pub ForWork : ℕ → CoreData F → WorkData F → Type 0 → Type 0
  ForWork hand core work fact = (task : TaskData F) → progress_at core.pile hand ≡ Some (task, work.done) → fact

  -- each hand works on the task that it had, and as many parts are done of this hand's as of the work, if so it was
  abbrev pub CountsParts : ℕ → (old new : CoreData F) → (work after : WorkData F) → Type 0
  CountsParts hand old new work after = ForWork hand old work (KeepTasks hand after.done old.pile new.pile)

  -- the fact holds, where the work is the hand's claim and no part of it is left
  abbrev pub WhereAllDone : ℕ → CoreData F → WorkData F → Type 0 → Type 0
  WhereAllDone hand core work fact = IsClaimOfWork work (claim_at core.pile hand) → work.done ≡ length work.parts → fact

  -- the hand works on the same task, with as many parts of it done as of the work, if it did before
  abbrev pub KeepsWork : ℕ → (old new : CoreData F) → (work after : WorkData F) → Type 0
  KeepsWork hand old new work after =
      (task : TaskData F) → progress_at old.pile hand ≡ Some (task, work.done) → progress_at new.pile hand ≡ Some (task, after.done)

  -- no part of the work is left, and nothing changed
  abbrev pub FindsNone : (old new : CoreData F) → (work after : WorkData F) → Type 0
  FindsNone old new work after = (work.done ≡ length work.parts) × (new ≡ old) × (after ≡ work)

  -- a part was left, and one more is done
  abbrev pub DoesNext : (work after : WorkData F) → Type 0
  DoesNext work after = (work.done < length work.parts) × (after ≡ record work { done = work.done + 1 })

  -- one part more is done of the same work
  pub record IsOneMore (old new : WorkData F) : Type 0 where
    pub task : new.task ≡ old.task
    pub parts : new.parts ≡ old.parts
    pub done : new.done ≡ old.done + 1

  module _ {L : Type 0} (B : EdgeAlgebra F L) where
    -- to meet the key's function with this one changes nothing
    abbrev pub IsKeyBelow : State F → Key → F → Type 0
    IsKeyBelow s t g = B.meet (unwrap_or (s.get t) B.all_top) g ≡ unwrap_or (s.get t) B.all_top

    -- to meet it changes the key's function, and makes none that is always top
    pub record Changes (s : State F) (t : Key) (g : F) : Type 0 where
      pub falls : ¬ (IsKeyBelow s t g)
      pub present : B.meet (unwrap_or (s.get t) B.all_top) g ≢ B.all_top

    -- the work's next part is done, which lowered its key
    pub record IsLowered (s t : State F) (hand : ℕ) (old new : WorkData F) : Type 0 where
      pub part : Key × F
      pub next : slice_get old.parts old.done ≡ Some part
      pub changes : Changes s part.0 part.1
      pub state : t ≡ part_done (with_lowered B s part.0 part.1) hand
      pub counted : IsOneMore old new

    -- the work's next part is done, which its key had received already
    pub record IsSkipped (s t : State F) (hand : ℕ) (old new : WorkData F) : Type 0 where
      pub part : Key × F
      pub next : slice_get old.parts old.done ≡ Some part
      pub met : IsKeyBelow s part.0 part.1
      pub state : t ≡ part_done s hand
      pub counted : IsOneMore old new

-- some of the work's next parts are done, one after the other: each lowered its key, or its key had
-- received it already
pub data ArePartsDone {F L : Type 0} (B : EdgeAlgebra F L) (hand : ℕ) (s : State F) (work : WorkData F) : State F → WorkData F → Type 0 where
  none_yet : ArePartsDone B hand s work s work
  then_lowered : {t u : State F} {before after : WorkData F} → ArePartsDone B hand s work t before → IsLowered B t u hand before after
      → ArePartsDone B hand s work u after
  then_skipped : {t u : State F} {before after : WorkData F} → ArePartsDone B hand s work t before → IsSkipped B t u hand before after
      → ArePartsDone B hand s work u after

module _ {F L : Type 0} (B : EdgeAlgebra F L) (targets : Targets F) where
  -- the hand's claim is of the work's task, with as many parts done, and its parts are what the task owes
  pub record IsCurrent (core : CoreData F) (hand : ℕ) (work : WorkData F) : Type 0 where
    pub claim : IsClaimOfWork work (claim_at core.pile hand)
    pub parts : work.parts ≡ owed B targets work.task

  -- the keys of all parts of the hand's work stand in the graph
  abbrev pub IsWorkInside : CoreData F → ℕ → Type 0
  IsWorkInside core hand = (work : WorkData F) → IsCurrent core hand work → AreInside core work.parts

  -- the hand, which had no claim, claims the task's key, which was pending and no hand's, and owes its parts
  pub record IsTaken (hand : ℕ) (old new : CoreData F) (task : TaskData F) : Type 0 where
    pub free : claim_at old.pile hand ≡ None
    pub pending : is_pending old.pile task.key ≡ true
    pub unclaimed : (h : ℕ) (held : Held (TaskData F)) → claim_at old.pile h ≡ Some held → held.key ≢ task.key
    pub state : state_of B targets new ≡ with_claim (state_of B targets old) hand (Some (new_claim task.key (owed B targets task)))

  -- the image, the pending keys and the claims are as they were
  abbrev pub SameState : (old new : CoreData F) → Type 0
  SameState old new = state_of B targets new ≡ state_of B targets old

  -- the key has received the function already
  abbrev pub HasReceived : CoreData F → Key → F → Type 0
  HasReceived core key f = IsKeyBelow B (state_of B targets core) key f

  -- to meet the key's function with this one changes it
  abbrev pub IsChangedBy : CoreData F → Key → F → Type 0
  IsChangedBy core key f = Changes B (state_of B targets core) key f

  -- the key's function is met with this one, and the key is pending
  abbrev pub IsLoweredBy : (old new : CoreData F) → Key → F → Type 0
  IsLoweredBy old new key f = state_of B targets new ≡ with_lowered B (state_of B targets old) key f

  -- the hand does the work's next part, which lowers its key
  abbrev pub LowersPart : ℕ → (old new : CoreData F) → (work after : WorkData F) → Type 0
  LowersPart hand old new work after = IsLowered B (state_of B targets old) (state_of B targets new) hand work after

  -- the hand does the work's next part, which its key had received already
  abbrev pub SkipsPart : ℕ → (old new : CoreData F) → (work after : WorkData F) → Type 0
  SkipsPart hand old new work after = IsSkipped B (state_of B targets old) (state_of B targets new) hand work after

  -- the hand does some of the work's next parts, one after the other
  abbrev pub DoesParts : ℕ → (old new : CoreData F) → (work after : WorkData F) → Type 0
  DoesParts hand old new work after = ArePartsDone B hand (state_of B targets old) work (state_of B targets new) after

  -- the same, where the work is that of the hand's claim
  abbrev pub LowersOwn : ℕ → (old new : CoreData F) → (work after : WorkData F) → Type 0
  LowersOwn hand old new work after = ForWork hand old work (LowersPart hand old new work after)

  abbrev pub SkipsOwn : ℕ → (old new : CoreData F) → (work after : WorkData F) → Type 0
  SkipsOwn hand old new work after = ForWork hand old work (SkipsPart hand old new work after)

  abbrev pub DoesOwn : ℕ → (old new : CoreData F) → (work after : WorkData F) → Type 0
  DoesOwn hand old new work after = ForWork hand old work (DoesParts hand old new work after)

  -- the hand's claim is given back, if it has one
  abbrev pub GivesBack : ℕ → (old new : CoreData F) → Type 0
  GivesBack hand old new = state_of B targets new ≡ with_claim (state_of B targets old) hand None

  -- every claim is given back
  abbrev pub GivesAllBack : (old new : CoreData F) → Type 0
  GivesAllBack old new = state_of B targets new ≡ unclaimed (state_of B targets old)

  -- the hand's claim, if it has one, is finished
  abbrev pub EndsHeld : ℕ → (old new : CoreData F) → Type 0
  EndsHeld hand old new =
      (held : Held (TaskData F)) → claim_at old.pile hand ≡ Some held
      → state_of B targets new ≡ finished (state_of B targets old) hand (claim_of B targets held)

  -- the hand had a claim with no part left, and it is finished
  abbrev pub EndsDone : ℕ → (old new : CoreData F) → Type 0
  EndsDone hand old new =
      (held : Held (TaskData F)) × (claim_at old.pile hand ≡ Some held) × ((claim_of B targets held).parts ≡ [])
      × (state_of B targets new ≡ finished (state_of B targets old) hand (claim_of B targets held))
