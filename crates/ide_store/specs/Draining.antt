-- What draining does: acts of hand 0, and batches where one is full.
use Rattle.std.specs.Prelude.{◌≡◌, ◌≤◌, ◌⊎◌, ℕ, ◌+◌, ◌-◌, ◌<◌, ◌^◌, Bool, true, false, List, [], ◌∷◌, if◌then◌else◌, length, min}
use Rattle.std.specs.List.{All}
use Rattle.ide_image.specs.Worklist.{IsFree, is_pending}
use Rattle.ide_image.specs.declared.claim.Claim.{Claim}
use Rattle.ide_lattice.specs.Algebra.{EdgeAlgebra}
use Rattle.ide_problem.specs.Flow.{Targets}
use Rattle.ide_steps.specs.Core.{CoreData, IsSameProblem, IsUnchanged}
use Rattle.ide_steps.specs.Drain.{HasLess, potential}
use Rattle.ide_steps.specs.Running.{AreAllClaimed, IsNextOwed, claimed_as, with_held}
use Rattle.ide_steps.specs.declared.drain.NextKey.{NextKey}
use Rattle.ide_steps.specs.declared.drain.NextKey.TheVariants.{Walked, Owes, Nothing}
use Rattle.ide_steps.specs.Steps.{HasReceived, IsChangedBy, IsLoweredBy, SameState}
use Rattle.ide_tasks.specs.Parts.{owed}
use Rattle.ide_tasks.specs.Task.{TaskData}
use Rattle.ide_wire.specs.declared.key.Key.{Key}
use Rattle.ide_steps.specs.DrainRefusal.{IsNoDrain, MayDrain}
use Rattle.ide_wire.specs.declared.refused.Refused.{Refused}
use Rattle.ide_wire.specs.declared.refused.Refused.TheVariants.{Limit, NoMemory}
use Rattle.ide_store.specs.Hands.{Batches, Claims, Ends, Happens, Loads, Parts, Releases, Roots}
use Rattle.ide_store.specs.Places.{Place}
use Rattle.ide_store.specs.Table.{Analysis, AreActs, StoreAct, TableData}
use Rattle.ide_store.specs.TableCalls.{IsFull, IsRefusal, IsSealStop}

module _ {F L : Type 0} (a : Analysis F L) (place : Place) where
  -- the hand claims a key, does a part, ends its claim or gives it back; or what changed is sealed
  abbrev pub IsByHand : ℕ → StoreAct a place → Type 0
  IsByHand hand (Claims h q parts) = h ≡ hand
  IsByHand hand (Parts h key g) = h ≡ hand
  IsByHand hand (Ends h c) = h ≡ hand
  IsByHand hand (Releases h) = h ≡ hand
  IsByHand hand (Loads v r) = ⊥
  IsByHand hand (Roots name first r) = ⊥
  IsByHand hand (Batches r) = Unit {0}
  IsByHand hand (Happens e) = ⊥

  abbrev pub is_claim : StoreAct a place → Bool
  is_claim (Claims h q parts) = true
  is_claim act = false

  abbrev pub is_release : StoreAct a place → Bool
  is_release (Releases h) = true
  is_release act = false

  -- how many of the acts are such
  abbrev pub count_of : (StoreAct a place → Bool) → List (StoreAct a place) → ℕ
  count_of is [] = 0
  count_of is (act ∷ acts) = (if is act then 1 else 0) + count_of is acts

  -- acts of hand 0 and batches, so many of which are claims, and so many give one back
  pub record AreByDrainer (claims releases : ℕ) (acts : List (StoreAct a place)) : Type 0 where
    pub own : All (IsByHand 0) acts
    pub claimed : count_of is_claim acts ≡ claims
    pub released : count_of is_release acts ≡ releases

module _ {F L : Type 0} (a : Analysis F L) (old new : TableData F) where
  -- with so many claims hand 0 came from the one to the other
  abbrev pub WorksBy : (claims releases : ℕ) → Type 0
  WorksBy claims releases = AreActs a old new (λ place. AreByDrainer a place claims releases)

  -- it claimed so many keys, and ended each claim
  abbrev pub RunsKeys : ℕ → Type 0
  RunsKeys count = WorksBy count 0

  -- there is no more to do than before
  abbrev pub HasNoMoreToDo : Type 0
  HasNoMoreToDo = potential a.functions new.core ≤ potential a.functions old.core

  -- what its next key came to: it claimed so many keys in turn, up to a count, and ended each claim, and this key owes the
  -- parts; or so many alone; or each pending key is claimed, and nothing changed
  abbrev pub ComesTo : (most : ℕ) → (parts : List (Key × F)) → NextKey → Type 0
  ComesTo most parts (Owes walked key) = (walked ≤ most) × HasNoMoreToDo × RunsKeys walked × IsNextOwed a.functions a.targets new.core parts key
  ComesTo most parts (Walked count) = (0 < count) × (count ≤ most) × HasLess a.functions old.core new.core × RunsKeys count
  ComesTo most parts Nothing = (new ≡ old) × AreAllClaimed new.core.pile

  -- it claimed so many keys, told up to the largest number of 64 bits, and ended each claim
  abbrev pub DrainsBy : ℕ → Type 0
  DrainsBy tasks = (claims : ℕ) × (tasks ≡ min claims (2 ^ 64 - 1)) × WorksBy claims 0

  -- it worked, and gave back no more than its last claim
  abbrev pub StopsBy : Type 0
  StopsBy = (claims releases : ℕ) × (releases ≤ 1) × WorksBy claims releases

-- all of the core stays but what is noted
abbrev pub IsSameCore : {F : Type 0} → (old new : CoreData F) → Type 0
IsSameCore old new = new ≡ record old { changes = new.changes }

module _ {F L : Type 0} (a : Analysis F L) (seals : Bool) where
  -- why hand 0 does not go on, which seals a batch that is full, or leaves that to others: memory is wanting; or a batch is full,
  -- and is not sealed; or it is left to others to seal it
  pub data IsWorkStop (now : TableData F) : Refused → Type 0 where
    memory_is_wanting : IsWorkStop now NoMemory
    full_batch_stays : {refused : Refused} → seals ≡ true → IsFull now.core → IsSealStop a now refused → IsWorkStop now refused
    full_batch_is_left : seals ≡ false → IsFull now.core → IsWorkStop now Limit

  -- why not all is done: it may not be drained; or it may, and hand 0 does not go on
  pub data IsDrainStop (old new : TableData F) : Refused → Type 0 where
    no_drain : {refused : Refused} → IsNoDrain old.core refused → IsDrainStop old new refused
    stops : {refused : Refused} → MayDrain old.core → IsWorkStop new refused → IsDrainStop old new refused

  -- and so why it is refused: one of the writer failed before, or for such a reason
  abbrev pub BarsDrain : (old new : TableData F) → Refused → Type 0
  BarsDrain old new = IsRefusal old (IsDrainStop old new)

-- want of memory and a full batch keep what was done before them; each other refusal leaves the half as it was
abbrev pub StopsAmid : {F : Type 0} → (old new : TableData F) → Refused → Type 0
StopsAmid old new refused = (refused ≡ NoMemory) ⊎ (refused ≡ Limit) ⊎ (new ≡ old)

-- the half as it would be, if hand 0 had that claim
abbrev pub table_held : {F : Type 0} → TableData F → Claim (TaskData F) → TableData F
table_held table held = record table { core = with_held table.core 0 held }

-- no hand has a claim, the key waits, and program, graph and roots stay
pub record StaysOwed {F : Type 0} (key : Key) (old new : CoreData F) : Type 0 where
  pub free : IsFree new.pile
  pub waits : is_pending new.pile key ≡ true
  pub same : IsSameProblem old new

module _ {F L : Type 0} (B : EdgeAlgebra F L) (targets : Targets F) (key : Key) (function : F) (old new : CoreData F) where
  -- the key's function was met with that one, which changed it
  pub record LowersOwed : Type 0 where
    pub lowers : IsLoweredBy B targets old new key function
    pub changes : IsChangedBy B targets old key function
    pub falls : HasLess B old new

  -- the key had received that function, and nothing changed
  pub record SkipsOwed : Type 0 where
    pub same : SameState B targets old new
    pub met : HasReceived B targets old key function
    pub unchanged : IsUnchanged old new

module _ {F L : Type 0} (a : Analysis F L) where
  -- whatever claim hand 0 has, it did nothing but seal
  abbrev pub WorksHeld : (old new : TableData F) → Type 0
  WorksHeld old new = (held : Claim (TaskData F)) → WorksBy a (table_held old held) (table_held new held) 0 0

  -- so many of the parts that a pending key owes are done, one of which lowered the key itself or none: to the store
  -- hand 0 did them, which had claimed the key
  pub record DrainsOff (key : Key) (parts : List (Key × F)) (done : ℕ) (lowered : Bool) (old new : TableData F) : Type 0 where
    pub works : (task : TaskData F) → parts ≡ owed a.functions a.targets task
        → WorksBy a (table_held old (claimed_as key task 0 false)) (table_held new (claimed_as key task done lowered)) 0 0
    pub less : (HasLess a.functions old.core new.core) ⊎ ((potential a.functions new.core ≡ potential a.functions old.core) × (lowered ≡ false))

  -- all of them are done
  abbrev pub DrainsAll : Key → List (Key × F) → (old new : TableData F) → Bool → Type 0
  DrainsAll key parts old new lowered = DrainsOff key parts (length parts) lowered old new

  -- some of them are done
  abbrev pub DrainsSome : Key → List (Key × F) → (old new : TableData F) → Type 0
  DrainsSome key parts old new = (done : ℕ) × (lowered : Bool) × DrainsOff key parts done lowered old new
