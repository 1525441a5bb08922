-- What it is to a run that the parts of a pending key are done by a hand that has no claim: it claims the key, does
-- them, and ends its claim. No other hand can see the core in between, so that the claim is not made.
use Rattle.std.specs.Prelude.{◌≡◌, ℕ, zero, suc, ◌+◌, ◌<◌, ◌≤◌, ◌⊎◌, ◌&&◌, not, Bool, true, false, List, [], ◌∷◌, Option, None, Some, if◌then◌else◌, length}
use Rattle.ide_graph.specs.Supergraph.{Supergraph}
use Rattle.ide_lattice.specs.Algebra.{LatticeAlgebra, EdgeAlgebra}
use Rattle.ide_problem.specs.Flow.{Targets}
use Rattle.ide_image.specs.Spent.{spent}
use Rattle.ide_image.specs.Tables.{Table}
use Rattle.ide_image.specs.Worklist.{Pile, is_claimed, is_pending}
use Rattle.ide_image.specs.declared.claim.Claim.{Claim}
use Rattle.ide_tasks.specs.Parts.{owed}
use Rattle.ide_tasks.specs.Task.{TaskData}
use Rattle.ide_wire.specs.Key.{same_key}
use Rattle.ide_wire.specs.declared.key.Key.{Key}
use Rattle.ide_steps.specs.Core.{AreInside, CoreData}
use Rattle.ide_steps.specs.Drain.{HasLess, potential}
use Rattle.ide_steps.specs.Going.{GoesOnByHand}
use Rattle.ide_steps.specs.Kept.{IsTaskWhere, WhereKept}
use Rattle.ide_steps.specs.State.{IsTaskOf}
use Rattle.ide_steps.specs.Walk.{HasWalked, WalksOwed}
use Rattle.ide_steps.specs.declared.drain.NextKey.{NextKey}
use Rattle.ide_steps.specs.declared.drain.NextKey.TheVariants.{Walked, Owes, Nothing}
use Rattle.ide_steps.specs.declared.loaded.Loaded.{Loaded}

-- the claims from hand 0 on, with that of one hand replaced
abbrev pub put_claim : {T : Type 0} → ℕ → Option (Claim T) → List (Option (Claim T)) → List (Option (Claim T))
put_claim zero claim [] = claim ∷ []
put_claim zero claim (c ∷ cs) = claim ∷ cs
put_claim (suc hand) claim [] = None ∷ put_claim hand claim []
put_claim (suc hand) claim (c ∷ cs) = c ∷ put_claim hand claim cs

-- each pending key is claimed
abbrev pub AreAllClaimed : {T : Type 0} → Pile T → Type 0
AreAllClaimed pile = (q : Key) → is_pending pile q ≡ true → is_claimed pile q ≡ true

module _ {F : Type 0} where
  -- a claim of the key with that task, of which so many parts are done; the key was lowered since, or was not
  abbrev pub claimed_as : Key → TaskData F → ℕ → Bool → Claim (TaskData F)
  claimed_as key task done lowered = record { key = key; task = task; done = done; lowered = lowered }

  -- the core as it would be, if the hand had that claim
  abbrev pub with_held : CoreData F → ℕ → Claim (TaskData F) → CoreData F
  with_held core hand held = record core { pile = record { pending = core.pile.pending; claims = put_claim hand (Some held) core.pile.claims } }

  -- the key is pending no longer
  pub record IsTakenOut (key : Key) (old new : Pile (TaskData F)) : Type 0 where
    pub pending : (q : Key) → is_pending new q ≡ (not (same_key key q) && is_pending old q)
    pub count : length new.pending + 1 ≡ length old.pending

module _ {F L : Type 0} (B : EdgeAlgebra F L) (targets : Targets F) where
  -- they are the parts that the key's task owes, as it would be claimed now
  pub record OwesParts (core : CoreData F) (key : Key) (parts : List (Key × F)) : Type 0 where
    pub task : TaskData F
    pub of_key : task.key ≡ key
    pub owes : parts ≡ owed B targets task
    pub is_task : (graph : Supergraph) → IsTaskWhere B targets graph core task

  -- the key waits for nobody's claim, and they are its parts, of which none has a key outside of the graph
  pub record IsNextOwed (core : CoreData F) (parts : List (Key × F)) (key : Key) : Type 0 where
    pub waits : is_pending core.pile key ≡ true
    pub unclaimed : is_claimed core.pile key ≡ false
    pub owed : OwesParts core key parts
    pub inside : AreInside core parts

  -- what the next key came to: so many nodes were walked over, up to a count, or none, and this key waits then and owes the
  -- parts; or so many were walked over alone; or each pending key is claimed, and nothing changed
  abbrev pub TakesUp : (most : ℕ) → (old new : CoreData F) → (parts : List (Key × F)) → NextKey → Type 0
  TakesUp most old new parts (Owes walked key) = (walked ≤ most) × HasWalked B targets old new walked × IsNextOwed new parts key
  TakesUp most old new parts (Walked count) = (0 < count) × (count ≤ most) × WalksOwed B targets old new count
  TakesUp most old new parts Nothing = (new ≡ old) × AreAllClaimed new.pile

  -- the same of a table over the graph of a program that is kept
  pub record ListsParts {P Q : Type 0} (loaded : Loaded P Q F) (table : Table F) (key : Key) (parts : List (Key × F)) : Type 0 where
    pub task : TaskData F
    pub of_key : task.key ≡ key
    pub owes : parts ≡ owed B targets task
    pub is_task : WhereKept targets loaded (IsTaskOf B targets loaded.graph table task)

module _ {F L : Type 0} (A : LatticeAlgebra L) (B : EdgeAlgebra F L) (targets : Targets F) (hand : ℕ) where
  -- so many of the parts that a pending key owes are done, one of which lowered the key itself or none: to a run the
  -- hand did them, which had claimed the key; and what they lowered is paid for
  pub record WorksOff (key : Key) (parts : List (Key × F)) (done : ℕ) (lowered : Bool) (old new : CoreData F) : Type 0 where
    pub lowerings : ℕ
    pub goes : (task : TaskData F) → parts ≡ owed B targets task
        → GoesOnByHand A B targets hand 0 lowerings 0 (with_held old hand (claimed_as key task 0 false)) (with_held new hand (claimed_as key task done lowered))
    pub keys : length new.pile.pending + (if lowered then 1 else 0) ≤ length old.pile.pending + lowerings
    pub ranks : lowerings + spent B old.table.entries ≤ spent B new.table.entries
    pub less : (HasLess B old new) ⊎ ((potential B new ≡ potential B old) × (lowered ≡ false))

  -- all of them are done
  abbrev pub DoesAll : Key → List (Key × F) → (old new : CoreData F) → Bool → Type 0
  DoesAll key parts old new lowered = WorksOff key parts (length parts) lowered old new

  -- some of them are done
  abbrev pub DoesSome : Key → List (Key × F) → (old new : CoreData F) → Type 0
  DoesSome key parts old new = (done : ℕ) × (lowered : Bool) × WorksOff key parts done lowered old new
