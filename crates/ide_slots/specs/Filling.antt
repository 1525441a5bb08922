-- The calls of a checkpoint on the slot that is not current, and what is known of its disk between them.
use Rattle.std.specs.Prelude.{◌≡◌, ℕ, ◌+◌, ◌<◌, Bool, true, false, zero, suc, List, [], ◌∷◌, ◌++◌, length, slice_index}
use Rattle.std.specs.List.{concat}
use Rattle.ide_disk.specs.Disk.{CrashLeaves, DiskState, IsKept, settled}
use Rattle.ide_journal.specs.Bytes.{Knows}
use Rattle.ide_journal.specs.Format.{after_gate}
use Rattle.ide_journal.specs.declared.stage.Stage.TheVariants.{BodySynced, GateWritten}
use Rattle.ide_slots.specs.DiskCalls.{Cuts, DiskCall, Syncs, Writes}
use Rattle.ide_slots.specs.Sides.{IsClosedOrLesser, IsLesserSlot, Side}
use Rattle.ide_slots.specs.Slot.{IsClosedSlot, NumberedEntry, Slot, records_of, slot_head, slot_header}

-- what is done next: the first gate is closed, or the slot cut where it is closed already (true); that is synced;
-- what stands behind the gate is cut off; the first page is written; then the records, whose bytes these are, each
-- at its place; they are synced; the first gate is opened; and that is synced
pub data Filling : Type 0 where
  Closes : Bool → Filling
  Settles : Filling
  Trims : Filling
  Heads : Filling
  Fills : ℕ → List (List ℕ) → Filling
  OpensGate : Filling
  Lasts : Filling

-- what stands behind the gate of a record, with the next gate
abbrev pub with_gate : ℕ → NumberedEntry → List ℕ
with_gate gate r = after_gate r.0 r.1 ++ gate ∷ []

-- that of each record: all the gates between them are open, and the last one is closed
abbrev pub chunks : List NumberedEntry → List (List ℕ)
chunks [] = []
chunks (r ∷ []) = with_gate 0 r ∷ []
chunks (r ∷ (s ∷ records)) = with_gate 1 r ∷ chunks (s ∷ records)

-- all that stands behind the first gate
abbrev pub filled_by : Slot → List ℕ
filled_by next = concat (chunks (records_of next))

abbrev pub fill_call : Slot → Filling → DiskCall
fill_call next (Closes true) = Cuts 4097
fill_call next (Closes false) = Writes 4096 (0 ∷ [])
fill_call next Settles = Syncs
fill_call next Trims = Cuts 4097
fill_call next Heads = Writes 0 (slot_header (slot_head next))
fill_call next (Fills at []) = Syncs
fill_call next (Fills at (chunk ∷ todo)) = Writes at chunk
fill_call next OpensGate = Writes 4096 (1 ∷ [])
fill_call next Lasts = Syncs

abbrev pub fill_next : Slot → Filling → Filling
fill_next next (Closes closed) = Settles
fill_next next Settles = Trims
fill_next next Trims = Heads
fill_next next Heads = Fills 4097 (chunks (records_of next))
fill_next next (Fills at []) = OpensGate
fill_next next (Fills at (chunk ∷ todo)) = Fills (at + length chunk) todo
fill_next next OpensGate = Lasts
fill_next next Lasts = Lasts

-- so many calls later
abbrev pub fill_after : ℕ → Slot → Filling → Filling
fill_after zero next fill = fill
fill_after (suc calls) next fill = fill_after calls next (fill_next next fill)

-- so many calls
abbrev pub fill_calls : ℕ → Slot → Filling → List DiskCall
fill_calls zero next fill = []
fill_calls (suc calls) next fill = fill_call next fill ∷ fill_calls calls next (fill_next next fill)

-- from the write that opens the first gate on
abbrev pub IsLate : Filling → Type 0
IsLate (Closes closed) = ⊥
IsLate Settles = ⊥
IsLate Trims = ⊥
IsLate Heads = ⊥
IsLate (Fills at todo) = ⊥
IsLate OpensGate = Unit {0}
IsLate Lasts = Unit {0}

-- the first gate is closed in what was synced, and no change since then touches it
pub record IsGateSure (disk : DiskState) : Type 0 where
  pub long : 4096 < length disk.synced
  pub gate : slice_index disk.synced 4096 ≡ 0
  pub kept : IsKept disk.changes 4096

-- a read gives these bytes, which are something that a crash may leave, and the first gate is sure to be closed
pub record IsFilledSo (bytes : List ℕ) (disk : DiskState) : Type 0 where
  pub sure : IsGateSure disk
  pub now : disk.now ≡ bytes
  pub possible : CrashLeaves disk disk.now

-- the first gate is closed, but for a crash that may leave it open as it was
pub record IsSettling (side : Side) (generation : ℕ) (disk : DiskState) : Type 0 where
  pub each : (left : List ℕ) → CrashLeaves disk left → IsClosedOrLesser side generation left
  pub now : IsClosedSlot disk.now
  pub possible : CrashLeaves disk disk.now

-- some bytes of which P holds are all that the disk has
pub record IsSettledWith (P : List ℕ → Type 0) (disk : DiskState) : Type 0 where
  pub bytes : List ℕ
  pub holds : P bytes
  pub settled_disk : disk ≡ settled bytes

-- the first page is written, and behind the closed gate all but what is still to be written
pub record IsFilledUpTo (next : Slot) (at : ℕ) (todo : List (List ℕ)) (disk : DiskState) : Type 0 where
  pub filled : List ℕ
  pub place : at ≡ 4097 + length filled
  pub rest : filled ++ concat todo ≡ filled_by next
  pub so : IsFilledSo (slot_header (slot_head next) ++ 0 ∷ filled) disk

-- what is left of the slot before is a page, whatever it tells, and the closed gate
pub record IsTrimmed (disk : DiskState) : Type 0 where
  pub page : List ℕ
  pub long : length page ≡ 4096
  pub so : IsFilledSo (page ++ 0 ∷ []) disk

-- what is known of the disk that is filled with the next slot, beside a current one on that side and of that generation
abbrev pub AtFilling : Side → ℕ → Slot → Filling → DiskState → Type 0
AtFilling side generation next (Closes true) disk = IsSettledWith IsClosedSlot disk
AtFilling side generation next (Closes false) disk = IsSettledWith (IsLesserSlot side generation) disk
AtFilling side generation next Settles disk = IsSettling side generation disk
AtFilling side generation next Trims disk = IsSettledWith IsClosedSlot disk
AtFilling side generation next Heads disk = IsTrimmed disk
AtFilling side generation next (Fills at todo) disk = IsFilledUpTo next at todo disk
AtFilling side generation next OpensGate disk = Knows BodySynced (slot_header (slot_head next)) (filled_by next) disk
AtFilling side generation next Lasts disk = Knows GateWritten (slot_header (slot_head next)) (filled_by next) disk
