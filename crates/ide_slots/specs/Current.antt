-- Which of two slots is current, and why none is.
use Rattle.std.specs.Prelude.{◌≢◌, ℕ, ◌<◌, ◌≤◌, List, length, slice_index}
use Rattle.ide_slots.specs.Reading.{Tells, TellsNothing}
use Rattle.ide_slots.specs.Sides.{IsChosen, Side, Sides, on}
use Rattle.ide_slots.specs.Slot.{IsClosedSlot, IsOpenSlot, SlotHead}
use Rattle.ide_slots.specs.declared.current.Beginning.{Beginning}
use Rattle.ide_slots.specs.declared.current.Beginning.TheVariants.{Closed, Open}
use Rattle.ide_slots.specs.declared.current.Current.{Current}

-- the files A and B
abbrev pub files : List ℕ → List ℕ → Sides (List ℕ)
files first second = record { a = first; b = second }

-- the slot on that side is the one that an opening takes, and its first page, with a gate behind it, tells this
pub record IsCurrent (side : Side) (told : SlotHead) (left : Sides (List ℕ)) : Type 0 where
  pub chosen : IsChosen side left
  pub tells : Tells told (on side left)
  pub gate : 4096 < length (on side left)

-- the slot that was found is that
abbrev pub IsFoundIn : Sides (List ℕ) → Current → Type 0
IsFoundIn left found = IsCurrent found.side found.head left

-- a file is no slot: it ends before its first gate, or that is open and the first page not valid
pub data IsNoSlot (bytes : List ℕ) : Type 0 where
  ends_early : length bytes ≤ 4096 → IsNoSlot bytes
  opened : slice_index bytes 4096 ≢ 0 → TellsNothing bytes → IsNoSlot bytes

-- why no slot is current: one is none, or both are closed and the first page of A is not valid
pub data HasNoCurrent (left : Sides (List ℕ)) : Type 0 where
  no_slot : (side : Side) → IsNoSlot (on side left) → HasNoCurrent left
  both_closed : IsClosedSlot left.a → IsClosedSlot left.b → TellsNothing left.a → HasNoCurrent left

-- how a slot begins, as it is read
abbrev pub BeginsSo : Beginning → List ℕ → Type 0
BeginsSo Closed bytes = IsClosedSlot bytes
BeginsSo (Open told) bytes = Tells told bytes × IsOpenSlot told.generation bytes

-- it is not taken beside an open one whose first page tells that
abbrev pub IsBehindOpen : Beginning → SlotHead → Type 0
IsBehindOpen Closed other = Unit {0}
IsBehindOpen (Open told) other = told.generation < other.generation
