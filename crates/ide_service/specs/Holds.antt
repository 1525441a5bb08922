-- What a hold of the table's lock finds in which a hand drains, why it is refused, and why a hand's work is.
use Rattle.std.specs.Prelude.{◌≡◌, ◌⊎◌, ℕ, Ok, Result, true, false}
use Rattle.ide_steps.specs.Core.{is_loaded}
use Rattle.ide_store.specs.Acting.{BeginsAnew}
use Rattle.ide_store.specs.Draining.{RunsKeys, StopsBy}
use Rattle.ide_store.specs.Table.{Analysis, TableData}
use Rattle.ide_wire.specs.declared.refused.Refused.{Refused}
use Rattle.ide_wire.specs.declared.refused.Refused.TheVariants.{Busy, Failed, NoMemory, NoProgram, Unfinished}
use Rattle.ide_service.specs.declared.draining.Hold.{Hold}
use Rattle.ide_service.specs.declared.draining.Hold.TheVariants.{Drained}
use Rattle.ide_service.specs.Refusing.{HalfRefuses, IsLoopRefusal, IsRefusedOver, to_seal}

-- a drain is refused since a hand has a claim
abbrev pub FindsClaim : Refused → Type 0
FindsClaim refused = (refused ≡ Busy) ⊎ (refused ≡ Unfinished)

module _ {F L : Type 0} (a : Analysis F L) where
  -- so many keys were run; or some were, and then what changed was sealed
  abbrev pub HoldDrains : (most : ℕ) → (old new : TableData F) → Type 0
  HoldDrains most old new = (RunsKeys a old new most) ⊎ ((mid : TableData F) × StopsBy a old mid × BeginsAnew mid.core new.core)

  -- where a hold says that it drained
  abbrev pub IfDrained : {E : Type 0} → (most : ℕ) → Result Hold E → (old new : TableData F) → Type 0
  IfDrained most result old new = result ≡ Ok Drained → HoldDrains most old new

  -- over some image that was met under the lock: a disk call failed before; or no program is loaded; or memory is wanting; or a batch
  -- was full, and is not sealed
  pub data IsHoldRefusal : Refused → Type 0 where
    store_failed : (table : TableData F) → table.failed ≡ true → IsHoldRefusal Failed
    nothing_loaded : (table : TableData F) → is_loaded table.core ≡ false → IsHoldRefusal NoProgram
    no_memory_left : IsHoldRefusal NoMemory
    batch_not_sealed : {why : Refused} → IsRefusedOver (HalfRefuses a) to_seal why → IsHoldRefusal why

  -- as a hold is in which it drains, or as its loop is
  pub data IsWorkRefusal (hand : ℕ) : Refused → Type 0 where
    in_a_hold : {why : Refused} → IsHoldRefusal why → IsWorkRefusal hand why
    in_its_loop : {why : Refused} → IsLoopRefusal (HalfRefuses a) hand why → IsWorkRefusal hand why
