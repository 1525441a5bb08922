-- Why a slot is not taken or read.
use Rattle.std.specs.Prelude.{◌≢◌, ℕ, List}
use Rattle.ide_wire.specs.declared.refused.Refused.{Refused}
use Rattle.ide_wire.specs.declared.refused.Refused.TheVariants.{Damaged, NoMemory, NotAStore, WrongInstance}
use Rattle.ide_slots.specs.Current.{HasNoCurrent, IsCurrent}
use Rattle.ide_slots.specs.Records.{IsDamagedAt}
use Rattle.ide_slots.specs.Sides.{Side, Sides}
use Rattle.ide_slots.specs.Slot.{SlotHead}

-- why none with that tag is taken: none is current, or the current one has another tag
pub data IsChoiceRefusal (tag : ℕ) (left : Sides (List ℕ)) : Refused → Type 0 where
  no_current : HasNoCurrent left → IsChoiceRefusal tag left NotAStore
  other_tag : (side : Side) (told : SlotHead) → IsCurrent side told left → told.head.tag ≢ tag
      → IsChoiceRefusal tag left WrongInstance

-- why a slot is not read: want of memory, or a record that is missing or not whole
pub data IsSlotRefusal (told : SlotHead) (bytes : List ℕ) : Refused → Type 0 where
  slot_memory : IsSlotRefusal told bytes NoMemory
  slot_damaged : {place : ℕ} → IsDamagedAt told bytes place → IsSlotRefusal told bytes (Damaged place)
