-- Two slots on two disks, and where their writer stands.
use Rattle.std.specs.Prelude.{◌≡◌, ◌≢◌, ◌⊎◌, ℕ, ◌+◌, ◌<◌, ◌≤◌, List, [], ◌∷◌, ◌++◌, Option, Some, None, length}
use Rattle.ide_disk.specs.Disk.{CrashLeaves, DiskState, settled}
use Rattle.ide_journal.specs.Bytes.{Knows}
use Rattle.ide_journal.specs.Format.{Entry, Head, IsEntry, head_of, header}
use Rattle.ide_journal.specs.declared.stage.Stage.{Stage}
use Rattle.ide_journal.specs.declared.stage.Stage.TheVariants.{Idle, Failed}
use Rattle.ide_journal.specs.declared.version.Version.{Version}
use Rattle.ide_journal.specs.declared.version.Version.TheVariants as version
use Rattle.ide_slots.specs.Filling.{AtFilling, Filling, IsLate, IsSettledWith, with_gate}
use Rattle.ide_slots.specs.Sides.{First, IsBehind, Shows, Side, Sides, off, on}
use Rattle.ide_slots.specs.Slot.{IsFront, IsSlot, Slot, slot_count, with_more}

-- a checkpoint: none is begun; one waits until the records below its base are stored; one makes its calls
pub data Checkpoint : Type 0 where
  NotBegun : Checkpoint
  Planned : Slot → Checkpoint
  UnderWay : Slot → Filling → Checkpoint

-- where the writer stands: which slot is current, of which version and generation, where its closed gate is, how far the
-- next record is, and how far a checkpoint
pub record SlotWriter : Type 0 where
  pub side : Side
  pub version : Version
  pub generation : ℕ
  pub gate : ℕ
  pub stage : Stage
  pub checkpoint : Checkpoint

-- what is known of the current disk: front is all before the gate, and the next record, if one waits, has that number
abbrev pub KnowsNext : Stage → List ℕ → ℕ → Option Entry → DiskState → Type 0
KnowsNext stage front number None disk = (stage ≡ Idle) × (disk ≡ settled (front ++ 0 ∷ []))
KnowsNext stage front number (Some entry) disk = (stage ≢ Failed) × Knows stage front (with_gate 0 (number, entry)) disk

-- it may be stored under that number
abbrev pub CanBeNext : ℕ → Option Entry → Type 0
CanBeNext number None = Unit {0}
CanBeNext number (Some entry) = IsEntry entry × (number ≤ 4294967294)

-- the slot of a checkpoint: of the next generation and of version 2, with nothing behind the checkpoint
pub record IsNextSlot (slot next : Slot) : Type 0 where
  pub proper : IsSlot next
  pub head : next.head ≡ head_of version.Two slot.head.tag
  pub generation : next.generation ≡ slot.generation + 1
  pub bare : next.rest ≡ []

-- records below the base are still to be stored; or all are stored, and none is under way
abbrev pub IsUpTo : ℕ → ℕ → Stage → Type 0
IsUpTo count base stage = (count < base) ⊎ ((count ≡ base) × (stage ≡ Idle))

-- a checkpoint waits
pub record IsPlanned (slot next : Slot) (stage : Stage) : Type 0 where
  pub follows : IsNextSlot slot next
  pub up_to : IsUpTo (slot_count slot) next.base stage

-- it makes its calls: the records below the base are stored, and none is under way
pub record IsMade (side : Side) (slot next : Slot) (stage : Stage) (fill : Filling) (disk : DiskState) : Type 0 where
  pub follows : IsNextSlot slot next
  pub stored : slot_count slot ≡ next.base
  pub idle : stage ≡ Idle
  pub filling : AtFilling side slot.generation next fill disk

-- what is known of the other disk
abbrev pub Beside : Side → Slot → Stage → Checkpoint → DiskState → Type 0
Beside side slot stage NotBegun disk = IsSettledWith (IsBehind side slot) disk
Beside side slot stage (Planned next) disk = IsSettledWith (IsBehind side slot) disk × IsPlanned slot next stage
Beside side slot stage (UnderWay next fill) disk = IsMade side slot next stage fill disk

-- the writer stands so on both disks, with this slot current, and with the next record, if one waits
pub record StandsTwo (slot : Slot) (next : Option Entry) (work : SlotWriter) (disks : Sides DiskState) : Type 0 where
  pub front : List ℕ
  pub whole : IsFront slot front
  pub version : work.version ≡ slot.head.version
  pub generation : work.generation ≡ slot.generation
  pub gate : work.gate ≡ length front
  pub knows : KnowsNext work.stage front (slot_count slot) next (on work.side disks)
  pub fits : CanBeNext (slot_count slot) next
  pub beside : Beside work.side slot work.stage work.checkpoint (off work.side disks)

-- a new store: A is current, with the closed gate behind its first page
abbrev pub first_writer : Version → ℕ → SlotWriter
first_writer version gate =
    record { side = First; version = version; generation = 0; gate = gate; stage = Idle; checkpoint = NotBegun }

abbrev pub first_disk : Head → DiskState
first_disk head = settled (header head ++ 0 ∷ [])

-- what a crash may leave of both disks, and what a read of both gives
abbrev pub LeavesTwo : Sides DiskState → Sides (List ℕ) → Type 0
LeavesTwo disks left = CrashLeaves disks.a left.a × CrashLeaves disks.b left.b

abbrev pub reads_two : Sides DiskState → Sides (List ℕ)
reads_two disks = record { a = disks.a.now; b = disks.b.now }

-- the slot with the next record
pub record HasNextToo (slot : Slot) (next : Option Entry) (found : Slot) : Type 0 where
  pub entry : Entry
  pub next_is : next ≡ Some entry
  pub is : found ≡ with_more slot entry

-- a checkpoint is turning to the other slot, from the write that opens its first gate on
abbrev pub IsTurning : Checkpoint → Type 0
IsTurning NotBegun = ⊥
IsTurning (Planned next) = ⊥
IsTurning (UnderWay next fill) = IsLate fill

-- the slot of a checkpoint that is turning to it
abbrev pub IsOfCheckpoint : Checkpoint → Slot → Type 0
IsOfCheckpoint NotBegun found = ⊥
IsOfCheckpoint (Planned next) found = ⊥
IsOfCheckpoint (UnderWay next fill) found = IsLate fill × (found ≡ next)

-- what may be found: the current slot, the same with the next record, or that of the checkpoint
abbrev pub MayBeFound : Slot → Option Entry → Checkpoint → Slot → Type 0
MayBeFound slot next checkpoint found = (found ≡ slot) ⊎ (HasNextToo slot next found ⊎ IsOfCheckpoint checkpoint found)

-- what is left shows one of them
pub record ShowsOne (slot : Slot) (next : Option Entry) (checkpoint : Checkpoint) (left : Sides (List ℕ)) : Type 0 where
  pub found : Slot
  pub may : MayBeFound slot next checkpoint found
  pub shows : Shows found left

-- whatever a crash leaves shows one of them, and what is read is something that a crash may leave
pub record IsSafeTwo (slot : Slot) (next : Option Entry) (checkpoint : Checkpoint) (disks : Sides DiskState)
    : Type 0 where
  pub each : (left : Sides (List ℕ)) → LeavesTwo disks left → ShowsOne slot next checkpoint left
  pub possible : LeavesTwo disks (reads_two disks)
