-- Laws of two slots: what their writer keeps, and what an opening finds.
use Rattle.std.specs.Prelude.{◌≡◌, ℕ, ◌<◌, List, [], Option, Some, None, length}
use Rattle.ide_disk.specs.Disk.{DiskState}
use Rattle.ide_journal.specs.Format.{Entry, Head, Holds}
use Rattle.ide_journal.specs.declared.stage.Phase.{Phase}
use Rattle.ide_journal.specs.declared.stage.Stage.TheVariants.{Begun, Idle}
use Rattle.ide_slots.specs.Sides.{First, IsChosen, Shows, Side, Sides, across, off, on, two_sides}
use Rattle.ide_slots.specs.Slot.{HoldsSlot, IsClosedSlot, Slot, first_slot, records_of, slot_count, with_more}
use Rattle.ide_slots.specs.Two.{CanBeNext, Checkpoint, IsNextSlot, IsSafeTwo, IsTurning, LeavesTwo, Planned, ShowsOne, SlotWriter, StandsTwo, first_disk, first_writer, reads_two}
use Rattle.ide_slots.specs.TwoCalls.{BeginsCheckpoint, CallsCheckpoint, CallsRecord, CrashesInCheckpoint, CrashesInRecord, EndsCheckpoint, FailsCheckpoint, FailsRecord, IsDue, IsRecordsTurn, OpensTwo, PlansCheckpoint, StopsTwo, StoresRecord}

-- both disks of a new store have the first page and a closed gate, and its writer stands on them; and a store on one disk
-- is shown, as the slot of A, beside a closed B
pub record StoresBegin : Type 0 where
  pub created : (head : Head) → 0 < head.tag
      → StandsTwo (first_slot head []) None (first_writer head.version 4096) (two_sides First (first_disk head) (first_disk head))
  pub adopted : (head : Head) (entries : List Entry) (bytes other : List ℕ) → 0 < head.tag → Holds head entries bytes
      → IsClosedSlot other → Shows (first_slot head entries) (two_sides First bytes other)

-- where a writer stands with work to do, some call of it can be made: for the next record, if it is its turn; and of a
-- checkpoint that waits, once the records below its base are stored
pub record WritersGoOn : Type 0 where
  pub due : (slot : Slot) (entry : Entry) (work : SlotWriter) (disks : Sides DiskState)
      → StandsTwo slot (Some entry) work disks → IsRecordsTurn (slot_count slot) work.checkpoint
      → (phase : Phase) × IsDue slot work phase
  pub begins : (slot other : Slot) (next : Option Entry) (work : SlotWriter) (disks : Sides DiskState)
      → StandsTwo slot next work disks → work.checkpoint ≡ Planned other → slot_count slot ≡ other.base
      → (new : SlotWriter) × BeginsCheckpoint slot work disks new

-- where a writer stands, a crash leaves the current slot, the same with the next record, or that of the checkpoint
abbrev pub StandingIsSafe : Type 0
StandingIsSafe = (slot : Slot) (next : Option Entry) (work : SlotWriter) (disks : Sides DiskState)
    → StandsTwo slot next work disks → IsSafeTwo slot next work.checkpoint disks

-- until a checkpoint turns to the other slot, an opening takes the current side, whatever a crash leaves; once the slot
-- of the checkpoint is whole, it takes the other
pub record SidesAreChosen : Type 0 where
  pub current : (slot : Slot) (next : Option Entry) (work : SlotWriter) (disks : Sides DiskState) (left : Sides (List ℕ))
      → StandsTwo slot next work disks → (IsTurning work.checkpoint → ⊥) → LeavesTwo disks left → IsChosen work.side left
  pub turned : (side : Side) (slot next : Slot) (left : Sides (List ℕ))
      → 0 < length (records_of slot) → IsNextSlot slot next
      → HoldsSlot slot (on side left) → HoldsSlot next (off side left) → IsChosen (across side) left

-- calls for the next record: a good one leaves the writer standing; a failed one, or a crash within one, what is safe
pub record RecordsKeepStanding : Type 0 where
  pub waits : (slot : Slot) (next : Option Entry) (work : SlotWriter) (disks : Sides DiskState)
      → StandsTwo slot None work disks → CanBeNext (slot_count slot) next → StandsTwo slot next work disks
  pub begun : (slot : Slot) (entry : Entry) (work : SlotWriter) (disks : Sides DiskState)
      → StandsTwo slot (Some entry) work disks → IsRecordsTurn (slot_count slot) work.checkpoint → work.stage ≡ Idle
      → StandsTwo slot (Some entry) (record work { stage = Begun }) disks
  pub called : (slot : Slot) (entry : Entry) (work new : SlotWriter) (disks after : Sides DiskState)
      → StandsTwo slot (Some entry) work disks → CallsRecord slot entry work disks new after
      → StandsTwo slot (Some entry) new after
  pub stored : (slot : Slot) (entry : Entry) (next : Option Entry) (work new : SlotWriter)
      (disks after : Sides DiskState) → StandsTwo slot (Some entry) work disks
      → StoresRecord slot entry work disks new after → CanBeNext (slot_count (with_more slot entry)) next
      → StandsTwo (with_more slot entry) next new after
  pub failed : (slot : Slot) (entry : Entry) (work : SlotWriter) (disks after : Sides DiskState)
      → StandsTwo slot (Some entry) work disks → FailsRecord slot entry work disks after
      → IsSafeTwo slot (Some entry) work.checkpoint after
  pub within : (slot : Slot) (entry : Entry) (work : SlotWriter) (disks : Sides DiskState) (left : Sides (List ℕ))
      → StandsTwo slot (Some entry) work disks → CrashesInRecord slot entry work disks left
      → ShowsOne slot (Some entry) work.checkpoint left

-- calls of a checkpoint do as well, and after the last one its slot is current
pub record CheckpointsKeepStanding : Type 0 where
  pub planned : (slot : Slot) (next : Option Entry) (work new : SlotWriter) (disks : Sides DiskState)
      → StandsTwo slot next work disks → PlansCheckpoint slot work new → StandsTwo slot next new disks
  pub begun : (slot : Slot) (next : Option Entry) (work new : SlotWriter) (disks : Sides DiskState)
      → StandsTwo slot next work disks → BeginsCheckpoint slot work disks new → StandsTwo slot next new disks
  pub called : (slot : Slot) (next : Option Entry) (work new : SlotWriter) (disks after : Sides DiskState)
      → StandsTwo slot next work disks → CallsCheckpoint work disks new after → StandsTwo slot next new after
  pub ended : (slot other : Slot) (next : Option Entry) (work new : SlotWriter) (disks after : Sides DiskState)
      → StandsTwo slot next work disks → EndsCheckpoint work disks new other after → StandsTwo other next new after
  pub failed : (slot : Slot) (next : Option Entry) (work : SlotWriter) (disks after : Sides DiskState)
      → StandsTwo slot next work disks → FailsCheckpoint work disks after → IsSafeTwo slot next work.checkpoint after
  pub within : (slot : Slot) (next : Option Entry) (work : SlotWriter) (disks : Sides DiskState) (left : Sides (List ℕ))
      → StandsTwo slot next work disks → CrashesInCheckpoint work disks left → ShowsOne slot next work.checkpoint left

-- what an opening did
pub record FindsSlot (slot : Slot) (disks : Sides DiskState) (shows : Shows slot (reads_two disks))
    (work : SlotWriter) (after : Sides DiskState) (opens : OpensTwo disks work after) : Type 0 where
  pub found : opens.slot ≡ slot
  pub side : work.side ≡ shows.side
  pub stands : (next : Option Entry) → CanBeNext (slot_count slot) next → StandsTwo slot next work after

-- an opening finds the slot that is shown, and goes on with it; there is one; and one that stops loses nothing
pub record OpeningsFind : Type 0 where
  pub opened : (slot : Slot) (disks : Sides DiskState) (shows : Shows slot (reads_two disks))
      (work : SlotWriter) (after : Sides DiskState) (opens : OpensTwo disks work after)
      → FindsSlot slot disks shows work after opens
  pub can_open : (slot : Slot) (disks : Sides DiskState) → Shows slot (reads_two disks)
      → (work : SlotWriter) × (after : Sides DiskState) × OpensTwo disks work after
  pub stopped : (slot : Slot) (next : Option Entry) (checkpoint : Checkpoint) (disks after : Sides DiskState)
      → IsSafeTwo slot next checkpoint disks → StopsTwo disks after → IsSafeTwo slot next checkpoint after
