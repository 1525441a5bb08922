-- What is asked of hands, and why a loop of them is refused.
use Rattle.std.specs.Prelude.{◌≡◌, ℕ, [], true}
use Rattle.ide_steps.specs.ClaimRefusal.{IsClaimRefusal}
use Rattle.ide_image.specs.Worklist.{is_claimed, is_pending}
use Rattle.ide_steps.specs.Core.{CoreData}
use Rattle.ide_store.specs.Table.{Analysis, TableData}
use Rattle.ide_store.specs.TableCalls.{IsFinishStop, IsPartStop, IsRefusal, IsSealStop}
use Rattle.ide_tasks.specs.Work.{WorkData}
use Rattle.ide_wire.specs.declared.key.Key.{Key}
use Rattle.ide_wire.specs.declared.refused.Refused.{Refused}
use Rattle.ide_wire.specs.declared.refused.Refused.TheVariants.{Limit, NoMemory, Stale}

-- what is asked: that a hand claims a key; that it does parts of its work; that it ends its claim, the work done; that what
-- changed is sealed
pub data HandCall (F : Type 0) : Type 0 where
  to_claim : (hand : ℕ) → HandCall F
  to_part : (hand : ℕ) → WorkData F → HandCall F
  to_finish : (hand : ℕ) → WorkData F → HandCall F
  to_seal : HandCall F

module _ {H F : Type 0} (refuses : H → HandCall F → Refused → Type 0) where
  -- over some image that a hand met, the call was refused so
  abbrev pub IsRefusedOver : HandCall F → Refused → Type 0
  IsRefusedOver call why = (hands : H) × refuses hands call why

  -- why the hand does not end a task that it claimed: as a part or the end of it is refused, though not since a batch is full,
  -- for then it is sealed; as a seal is; or memory is wanting for the work
  pub data IsTaskRefusal (hand : ℕ) : Refused → Type 0 where
    no_part : {why : Refused} (work : WorkData F) → ¬ (why ≡ Limit) → IsRefusedOver (to_part hand work) why → IsTaskRefusal hand why
    no_end : {why : Refused} (work : WorkData F) → ¬ (why ≡ Limit) → IsRefusedOver (to_finish hand work) why → IsTaskRefusal hand why
    no_seal : {why : Refused} → IsRefusedOver to_seal why → IsTaskRefusal hand why
    no_memory : IsTaskRefusal hand NoMemory

  -- why a loop of the hand is refused: as a claim is; or as a task is, but for `Stale`, after which it claims again
  pub data IsLoopRefusal (hand : ℕ) : Refused → Type 0 where
    no_claim : {why : Refused} → IsRefusedOver (to_claim hand) why → IsLoopRefusal hand why
    no_task : {why : Refused} → ¬ (why ≡ Stale) → IsTaskRefusal hand why → IsLoopRefusal hand why

-- some key is pending, and each that is has a claim
pub record IsWaiting {F : Type 0} (core : CoreData F) : Type 0 where
  pub some : ¬ (core.pile.pending ≡ [])
  pub claimed : (key : Key) → is_pending core.pile key ≡ true → is_claimed core.pile key ≡ true

-- why a half that works refuses each of them
abbrev pub HalfRefuses : {F L : Type 0} → Analysis F L → TableData F → HandCall F → Refused → Type 0
HalfRefuses a table (to_claim hand) why = IsRefusal table (IsClaimRefusal table.core hand) why
HalfRefuses a table (to_part hand work) why = IsRefusal table (IsPartStop a.functions a.targets table.core hand work) why
HalfRefuses a table (to_finish hand work) why = IsRefusal table (IsFinishStop a.functions a.targets table.core hand work) why
HalfRefuses a table to_seal why = IsRefusal table (IsSealStop a table) why

-- why a hand that shares a half refuses them: over some image that it met under the lock; before it claims it may have
-- done tasks
abbrev pub SharedRefuses : {F L : Type 0} → Analysis F L → HandCall F → Refused → Type 0
SharedRefuses a (to_claim hand) why = IsLoopRefusal (HalfRefuses a) hand why
SharedRefuses a (to_part hand work) why = IsRefusedOver (HalfRefuses a) (to_part hand work) why
SharedRefuses a (to_finish hand work) why = IsRefusedOver (HalfRefuses a) (to_finish hand work) why
SharedRefuses a to_seal why = IsRefusedOver (HalfRefuses a) to_seal why

-- over some image that was met under the lock, a call of the half is refused for that reason
abbrev pub IsRefusedIn : {F : Type 0} → (TableData F → Refused → Type 0) → Refused → Type 0
IsRefusedIn {F} Why why = (table : TableData F) × IsRefusal table (Why table) why
