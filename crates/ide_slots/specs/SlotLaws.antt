-- Laws of slots.
use Rattle.std.specs.Prelude.{◌≡◌, ◌≢◌, ℕ, ◌<◌, List, length, slice_index}
use Rattle.ide_journal.specs.Format.{Entry, Head, Holds}
use Rattle.ide_slots.specs.Current.{HasNoCurrent, IsCurrent}
use Rattle.ide_slots.specs.Sides.{IsChosen, Shows, Side, Sides}
use Rattle.ide_slots.specs.Slot.{HoldsSlot, IsClosedSlot, IsOpenSlot, IsSlot, IsValidHead, Slot, SlotHead, first_slot, slot_head, slot_header}

-- first pages that are valid and equal tell the same
abbrev pub HeadersTellApart : Type 0
HeadersTellApart = (told other : SlotHead) → IsValidHead told → IsValidHead other
    → slot_header told ≡ slot_header other → told ≡ other

-- a file holds one slot at most
abbrev pub HoldsOneSlot : Type 0
HoldsOneSlot = (slot other : Slot) (bytes : List ℕ) → HoldsSlot slot bytes → HoldsSlot other bytes → slot ≡ other

-- a store on one disk is a slot of generation 0, and back; and there is no other slot of that generation
pub record StoresAreSlots : Type 0 where
  pub store : (head : Head) (entries : List Entry) (bytes : List ℕ) → 0 < head.tag → Holds head entries bytes
      → HoldsSlot (first_slot head entries) bytes
  pub back : (head : Head) (entries : List Entry) (bytes : List ℕ) → HoldsSlot (first_slot head entries) bytes
      → Holds head entries bytes
  pub each : (slot : Slot) → IsSlot slot → slot.generation ≡ 0 → slot ≡ first_slot slot.head slot.rest

-- the byte behind the first page tells whether a slot is open, and the page of which generation it is
pub record GatesTell : Type 0 where
  pub closed : (bytes : List ℕ) → 4096 < length bytes → slice_index bytes 4096 ≡ 0 → IsClosedSlot bytes
  pub is_closed : (bytes : List ℕ) → IsClosedSlot bytes → (4096 < length bytes) × (slice_index bytes 4096 ≡ 0)
  pub is_open : (generation : ℕ) (bytes : List ℕ) → IsOpenSlot generation bytes
      → (4096 < length bytes) × (slice_index bytes 4096 ≢ 0)
  pub one : (generation other : ℕ) (bytes : List ℕ) → IsOpenSlot generation bytes → IsOpenSlot other bytes
      → generation ≡ other

-- an opening takes one side at most, and it is that of the slot that is shown; so one slot at most is shown
pub record OneSideIsChosen : Type 0 where
  pub one_side : (side other : Side) (left : Sides (List ℕ)) → IsChosen side left → IsChosen other left → side ≡ other
  pub shown : (slot : Slot) (left : Sides (List ℕ)) (shows : Shows slot left) → IsChosen shows.side left
  pub one_slot : (slot other : Slot) (left : Sides (List ℕ)) → Shows slot left → Shows other left → slot ≡ other

-- one slot at most is current, and none where there is a cause for that; and the slot that is shown is
pub record OneSlotIsCurrent : Type 0 where
  pub one : (side other : Side) (told other_told : SlotHead) (left : Sides (List ℕ))
      → IsCurrent side told left → IsCurrent other other_told left → (side ≡ other) × (told ≡ other_told)
  pub none : (side : Side) (told : SlotHead) (left : Sides (List ℕ)) → HasNoCurrent left → IsCurrent side told left → ⊥
  pub shown : (slot : Slot) (left : Sides (List ℕ)) (shows : Shows slot left)
      → IsCurrent shows.side (slot_head slot) left
