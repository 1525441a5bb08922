-- Laws of a checkpoint's calls.
use Rattle.std.specs.Prelude.{◌≡◌, ◌≢◌, ◌⊎◌, ℕ, ◌+◌, ◌<◌, Bool, List, length}
use Rattle.ide_disk.specs.Disk.{DiskState, synced_now}
use Rattle.ide_slots.specs.DiskCalls.{LeavesWithin, after_disk_call}
use Rattle.ide_slots.specs.Filling.{AtFilling, Closes, Filling, IsLate, Lasts, fill_after, fill_call, fill_next}
use Rattle.ide_slots.specs.Sides.{IsClosedOrLesser, Side}
use Rattle.ide_slots.specs.Slot.{HoldsSlot, IsClosedSlot, IsSlot, Slot, records_of}

-- a checkpoint of r records makes r + 7 calls: the last comes after r + 6 others, and not before
pub record CheckpointsHaveCalls : Type 0 where
  pub last : (next : Slot) (closed : Bool) → fill_after (length (records_of next) + 6) next (Closes closed) ≡ Lasts
  pub before : (next : Slot) (closed : Bool) (calls : ℕ) → calls < length (records_of next) + 6
      → fill_after calls next (Closes closed) ≢ Lasts

-- each good call moves the filling on
abbrev pub FillingsGoOn : Type 0
FillingsGoOn = (side : Side) (generation : ℕ) (next : Slot) (fill : Filling) (disk : DiskState) → fill ≢ Lasts
    → AtFilling side generation next fill disk
    → AtFilling side generation next (fill_next next fill) (after_disk_call (fill_call next fill) disk)

-- until the write that opens the first gate, a crash within a call leaves the slot closed or of lesser generation
abbrev pub FillingsStayBehind : Type 0
FillingsStayBehind = (side : Side) (generation : ℕ) (next : Slot) (fill : Filling) (disk : DiskState) (left : List ℕ)
    → (IsLate fill → ⊥) → AtFilling side generation next fill disk → LeavesWithin (fill_call next fill) disk left
    → IsClosedOrLesser side generation left

-- from then on it leaves the slot closed, or whole; and whole from the last sync on
pub record FillingsEndWhole : Type 0 where
  pub late : (side : Side) (generation : ℕ) (next : Slot) (fill : Filling) (disk : DiskState) (left : List ℕ)
      → IsSlot next → 0 < length (records_of next) → IsLate fill → AtFilling side generation next fill disk
      → LeavesWithin (fill_call next fill) disk left → IsClosedSlot left ⊎ HoldsSlot next left
  pub whole : (side : Side) (generation : ℕ) (next : Slot) (disk : DiskState)
      → IsSlot next → 0 < length (records_of next) → AtFilling side generation next Lasts disk
      → HoldsSlot next (synced_now disk).now
