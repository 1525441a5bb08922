-- Laws of slots that are read.
use Rattle.std.specs.Prelude.{◌≡◌, ℕ, List, take}
use Rattle.ide_slots.specs.Current.{HasNoCurrent, IsCurrent, files}
use Rattle.ide_slots.specs.Records.{IsDamagedAt}
use Rattle.ide_slots.specs.Sides.{Side, Sides}
use Rattle.ide_slots.specs.Slot.{HoldsSlot, IsValidHead, Slot, SlotHead, slot_head}

-- a file that holds a slot lacks no record of it, and of any other file one place at most is told
pub record PlacesAreExact : Type 0 where
  pub none : (slot : Slot) (bytes : List ℕ) (place : ℕ) → HoldsSlot slot bytes → IsDamagedAt (slot_head slot) bytes place → ⊥
  pub one : (told : SlotHead) (bytes : List ℕ) (place other : ℕ) → IsValidHead told
      → IsDamagedAt told bytes place → IsDamagedAt told bytes other → place ≡ other

-- the first page of each file, and its first gate
abbrev pub fronts_of : Sides (List ℕ) → Sides (List ℕ)
fronts_of left = files (take 4097 left.a) (take 4097 left.b)

-- which slot is current, and why none is, is told by these bytes alone
pub record FrontsTellCurrent : Type 0 where
  pub current : (side : Side) (told : SlotHead) (left : Sides (List ℕ))
      → IsCurrent side told (fronts_of left) → IsCurrent side told left
  pub none : (left : Sides (List ℕ)) → HasNoCurrent (fronts_of left) → HasNoCurrent left
