-- What each call of the half that works does, by what it answers, and why it is refused.
use Rattle.std.specs.Prelude.{◌≡◌, ℕ, ◌+◌, ◌<◌, ◌≤◌, ◌++◌, true, false, List, [], ◌∷◌, Option, Some, None, length, slice_get}
use Rattle.std.specs.Option.{option_map}
use Rattle.ide_batch.specs.Items.{Item, is_proper_item}
use Rattle.ide_journal.specs.Format.{Entry}
use Rattle.ide_lattice.specs.Algebra.{EdgeAlgebra}
use Rattle.ide_problem.specs.Flow.{Targets}
use Rattle.ide_image.specs.Notes.{ended_key, noted, noted_count}
use Rattle.ide_steps.specs.Changed.{grows}
use Rattle.ide_steps.specs.PartRefusal.{IsFinishRefusal, IsPartRefusal}
use Rattle.ide_steps.specs.Refusal.{IsNoRoot}
use Rattle.ide_steps.specs.Core.{CoreData}
use Rattle.ide_steps.specs.State as steps
use Rattle.ide_steps.specs.Steps.{IsKeyBelow, IsCurrent}
use Rattle.ide_image.specs.Tables.{found}
use Rattle.ide_tasks.specs.Parts.{owed}
use Rattle.ide_tasks.specs.Task.{TaskData}
use Rattle.ide_tasks.specs.Work.{WorkData}
use Rattle.ide_text.specs.Value.{ProgramValue}
use Rattle.ide_wire.specs.declared.key.Key.{Key}
use Rattle.ide_wire.specs.declared.refused.Refused.{Refused}
use Rattle.ide_wire.specs.declared.refused.Refused.TheVariants.{Failed, Limit, NoMemory, Stale}
use Rattle.ide_image.specs.Worklist.{claim_at}
use Rattle.ide_image.specs.declared.claim.Claim.{Claim as Held}
use Rattle.ide_store.specs.Hands.{Batches, Claims, Ends, Loads, Parts, Releases, Roots}
use Rattle.ide_store.specs.Places.{Place}
use Rattle.ide_store.specs.Versioned.{VersionedEntry}
use Rattle.ide_store.specs.Table.{Analysis, HasNothingNew, IsAct, IsReached, KeepsRest, StoreWorld, TableData, WorksOn, forms_of}

-- one record more waits, with the number that is answered
pub record SealsOne {F : Type 0} (old new : TableData F) (record_entry : Entry) (number : ℕ) : Type 0 where
  pub number_is : number ≡ old.sealed
  pub sealed : new.sealed ≡ old.sealed + 1
  pub waits : new.waiting ≡ old.waiting ++ record_entry ∷ []

-- the records of what changed, if anything did, and then of the root
abbrev pub behind_first : Option Entry → Entry → List Entry
behind_first None entry = entry ∷ []
behind_first (Some first) entry = first ∷ entry ∷ []

module _ {F L : Type 0} (a : Analysis F L) where
  -- the hand claims the task's key, and owes its parts
  abbrev pub TakesTask : ℕ → (old new : TableData F) → TaskData F → Type 0
  TakesTask hand old new task = IsAct a old new (λ place. Claims hand task.key (owed a.functions a.targets task))

  -- the hand does the next part of the work, which counts it
  pub record DoesPart (hand : ℕ) (old new : TableData F) (work after : WorkData F) : Type 0 where
    pub part : Key × F
    pub next : slice_get work.parts work.done ≡ Some part
    pub counted : after ≡ record work { done = work.done + 1 }
    pub act : IsAct a old new (λ place. Parts hand part.0 part.1)

  -- the hand's claim, with no part left, ends
  pub record EndsClaim (hand : ℕ) (old new : TableData F) : Type 0 where
    pub held : Held (TaskData F)
    pub is : claim_at old.core.pile hand ≡ Some held
    pub act : IsAct a old new (λ place. Ends hand (steps.claim_of a.functions a.targets held))

  -- the hand's claim is given back
  abbrev pub GivesClaimBack : ℕ → (old new : TableData F) → Type 0
  GivesClaimBack hand old new = IsAct a old new (λ place. Releases hand)

  -- the program is loaded, and its record sealed
  pub record LoadsProgram (v : ProgramValue) (old new : TableData F) (number : ℕ) : Type 0 where
    pub entry : Entry
    pub seals : SealsOne old new entry number
    pub act : IsAct a old new (λ place. Loads v (old.version, entry))

  -- what changed is sealed
  pub record SealsBatch (old new : TableData F) (number : ℕ) : Type 0 where
    pub entry : Entry
    pub seals : SealsOne old new entry number
    pub act : IsAct a old new (λ place. Batches (old.version, entry))

  -- nothing changed since the last record, and nothing is sealed
  pub record FindsNothing (old new : TableData F) : Type 0 where
    pub rest : KeepsRest old new
    pub caught_up : (place : Place) (w : StoreWorld a place) (handed : List VersionedEntry) → IsReached a place w → WorksOn a place w old handed
        → HasNothingNew a place w × WorksOn a place w new handed

  -- the procedure of the name becomes a root; what changed is sealed first, if anything did, and then the root's record,
  -- whose number is answered
  pub record BeginsRoot (name : List ℕ) (old new : TableData F) (number : ℕ) : Type 0 where
    pub first : Option Entry
    pub entry : Entry
    pub waits : new.waiting ≡ old.waiting ++ behind_first first entry
    pub sealed : new.sealed ≡ old.sealed + length (behind_first first entry)
    pub number_is : number + 1 ≡ new.sealed
    pub act : IsAct a old new (λ place. Roots name (option_map (λ batch. (old.version, batch)) first) (old.version, entry))

-- ---- refusals
module _ {F : Type 0} where
  -- why a call is refused: one of the writer failed before; or none did, and for this reason
  pub data IsRefusal (table : TableData F) (Why : Refused → Type 0) : Refused → Type 0 where
    after_failure : table.failed ≡ true → IsRefusal table Why Failed
    by_itself : {refused : Refused} → table.failed ≡ false → Why refused → IsRefusal table Why refused

  -- the hand has no claim
  pub data IsStaleClaim (table : TableData F) (hand : ℕ) : Refused → Type 0 where
    no_claim : claim_at table.core.pile hand ≡ None → IsStaleClaim table hand Stale

  -- as many keys changed as a batch may have
  abbrev pub IsFull : CoreData F → Type 0
  IsFull core = 65536 ≤ noted_count core.changes

  -- why no program is loaded: as many records are sealed as there may be, or memory is wanting
  pub data IsLoadStop (table : TableData F) : Refused → Type 0 where
    no_number : table.sealed ≡ 4294967295 → IsLoadStop table Limit
    no_memory : table.sealed < 4294967295 → IsLoadStop table NoMemory

module _ {F L : Type 0} (B : EdgeAlgebra F L) (targets : Targets F) (core : CoreData F) (hand : ℕ) (work : WorkData F) where
  -- the work's next part would change its key
  abbrev pub FallsBy : Key × F → Type 0
  FallsBy part = ¬ (IsKeyBelow B (steps.state_of B targets core) part.0 part.1)

  -- as many keys are noted as a batch may have, and the work's next part would change another one
  pub record PartOverflows : Type 0 where
    pub own : IsCurrent B targets core hand work
    pub full : IsFull core
    pub part : Key × F
    pub next : slice_get work.parts work.done ≡ Some part
    pub new : noted core.changes part.0 ≡ None
    pub falls : FallsBy part

  -- and so would the end of the hand's claim
  pub record EndOverflows : Type 0 where
    pub own : IsCurrent B targets core hand work
    pub full : IsFull core
    pub over : length work.parts ≤ work.done
    pub key : Key
    pub ends : ended_key (claim_at core.pile hand) ≡ Some key
    pub new : noted core.changes key ≡ None

  -- why no part is done: for the core's reason, of which staleness is told first; or a batch has no room for the key
  pub data IsPartStop : Refused → Type 0 where
    part_refused : {refused : Refused} → IsPartRefusal B targets core hand work refused → IsPartStop refused
    part_overflows : PartOverflows → IsPartStop Limit

  -- and why a claim does not end
  pub data IsFinishStop : Refused → Type 0 where
    end_refused : {refused : Refused} → IsFinishRefusal B targets core hand work refused → IsFinishStop refused
    end_overflows : EndOverflows → IsFinishStop Limit

  -- where the work is the hand's claim, fewer keys are noted than a batch may have
  abbrev pub HasRoom : Type 0
  HasRoom = IsCurrent B targets core hand work → noted_count core.changes < 65536

  -- the notes after the work's next part, if it changes its key, are few enough for a batch
  abbrev pub HasRoomForPart : Type 0
  HasRoomForPart = IsCurrent B targets core hand work → (part : Key × F) → slice_get work.parts work.done ≡ Some part → FallsBy part
      → noted_count core.changes ≤ 65536 → noted_count core.changes + grows core.changes (Some part.0) ≤ 65536

  -- and so they are after the end of the hand's claim
  abbrev pub HasRoomForEnd : Type 0
  HasRoomForEnd = IsCurrent B targets core hand work → length work.parts ≤ work.done → noted_count core.changes ≤ 65536
      → noted_count core.changes + grows core.changes (ended_key (claim_at core.pile hand)) ≤ 65536

module _ {F L : Type 0} (a : Analysis F L) (table : TableData F) where
  -- why what changed is not sealed: as many records are sealed as there may be; or a key has a function that no record spells,
  -- such as the always-top one; or memory is wanting
  pub data IsSealStop : Refused → Type 0 where
    no_number_left : table.sealed ≡ 4294967295 → IsSealStop Limit
    not_spelled : (item : Item F) → found table.core.table item.0 ≡ Some item.1 → is_proper_item (forms_of a) item ≡ false → IsSealStop Limit
    wants_memory : IsSealStop NoMemory

  -- why the name is no root yet: it may be none; or what changed is not sealed; or there is no number left for the record, or the
  -- name is longer than a record may be; or memory is wanting
  pub data IsRootStop (name : List ℕ) : Refused → Type 0 where
    no_root : {refused : Refused} → IsNoRoot table.core.graph table.core.roots name refused → IsRootStop name refused
    not_sealed : {refused : Refused} → IsSealStop refused → IsRootStop name refused
    last_number : 4294967294 ≤ table.sealed → IsRootStop name Limit
    long_name : 4194304 < length name → IsRootStop name Limit
    memory_wanting : IsRootStop name NoMemory
