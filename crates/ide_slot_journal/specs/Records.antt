-- What the calls for the next record do, whatever slot is current.
use Rattle.std.specs.Prelude.{◌≡◌, ◌+◌, Some, None, Result, Ok, Err, length}
use Rattle.ide_disk.specs.OneCall.{FailsOnce}
use Rattle.ide_disk.specs.declared.disk.Disk.{Ghosts}
use Rattle.ide_journal.specs.Format.{Entry}
use Rattle.ide_journal.specs.declared.stage.Phase.{Phase}
use Rattle.ide_journal.specs.declared.stage.Phase.TheVariants as phases
use Rattle.ide_slots.specs.Slot.{Slot, with_more}
use Rattle.ide_slots.specs.TwoCalls.{CallsRecord, CrashesInRecord, FailsRecord, StoresRecord}
use Rattle.ide_wire.specs.declared.refused.Refused.{Refused}
use Rattle.ide_wire.specs.declared.refused.Refused.TheVariants as refusals
use Rattle.ide_slot_journal.specs.Moments.{LeavesInCall, LeavesOnlyTwo}
use Rattle.ide_slot_journal.specs.Stages.{once_stored, once_written, phase_from, record_stage}
use Rattle.ide_slot_journal.specs.Stands.{AreHonest, HasFaulted, StandsOn, disks_of, sides_of, slot_writer}
use Rattle.ide_slot_journal.specs.declared.journal.SlotJournal.{SlotJournal}

-- no call for a record changes these
pub record KeepsOther {D : Type 0} {G : Ghosts D} (old new : SlotJournal D G) : Type 0 where
  pub side : new.side ≡ old.side
  pub generation : new.generation ≡ old.generation
  pub base : new.base ≡ old.base
  pub version : new.version ≡ old.version
  pub tag : new.tag ≡ old.tag
  pub filler : new.filler ≡ old.filler
  pub other : new.other ≡ old.other

-- the record under way is at that phase, and stored at the last one
pub record ReachesPhase {D : Type 0} {G : Ghosts D} (phase : Phase) (old new : SlotJournal D G) : Type 0 where
  pub is : phase ≡ phase_from old.stage
  pub stage : new.stage ≡ record_stage phase
  pub gate : new.gate ≡ once_stored phase old.gate old.end
  pub count : new.count ≡ once_stored phase old.count old.next
  pub end : new.end ≡ once_written phase old.end (old.gate + length old.tail.items)
  pub next : new.next ≡ old.next
  pub tail : new.tail.items ≡ old.tail.items

-- nor does one that is refused change these
pub record KeepsRecord {D : Type 0} {G : Ghosts D} (old new : SlotJournal D G) : Type 0 where
  pub current : new.current ≡ old.current
  pub gate : new.gate ≡ old.gate
  pub end : new.end ≡ old.end
  pub count : new.count ≡ old.count
  pub next : new.next ≡ old.next
  pub stage : new.stage ≡ old.stage
  pub tail : new.tail ≡ old.tail

-- both together: nothing is changed
abbrev pub IsSameJournal : {D : Type 0} {G : Ghosts D} → (old new : SlotJournal D G) → Type 0
IsSameJournal old new = KeepsRecord old new × KeepsOther old new

-- a record is the next one, and no disk is touched
pub record TouchesNoDisk {D : Type 0} {G : Ghosts D} (old new : SlotJournal D G) : Type 0 where
  pub current : new.current ≡ old.current
  pub gate : new.gate ≡ old.gate
  pub count : new.count ≡ old.count

-- wherever the journal stands with no next record, it stands with this one
abbrev pub PutsNext : {D : Type 0} {G : Ghosts D} → Entry → (old new : SlotJournal D G) → Type 0
PutsNext entry old new = (slot other : Slot) → StandsOn slot None other old → StandsOn slot (Some entry) other new

-- or still with none
abbrev pub PutsNone : {D : Type 0} {G : Ghosts D} → (old new : SlotJournal D G) → Type 0
PutsNone old new = (slot other : Slot) → StandsOn slot None other old → StandsOn slot None other new

-- a call for the next record: it goes on to the phase that is answered, is stored, or fails
pub data RecordStep {D : Type 0} {G : Ghosts D} (slot : Slot) (entry : Entry) (other : Slot) (old new : SlotJournal D G)
    : Result Phase Refused → Type 0 where
  record_called : (calls : CallsRecord slot entry (slot_writer other old) (disks_of old) (slot_writer other new) (disks_of new))
      → StandsOn slot (Some entry) other new → RecordStep slot entry other old new (Ok calls.phase)
  record_stored : StoresRecord slot entry (slot_writer other old) (disks_of old) (slot_writer other new) (disks_of new)
      → StandsOn (with_more slot entry) None other new → RecordStep slot entry other old new (Ok phases.Stored)
  record_failed : FailsRecord slot entry (slot_writer other old) (disks_of old) (disks_of new)
      → RecordStep slot entry other old new (Err refusals.Disk)

-- wherever the journal stands with a next record, it is such a call
abbrev pub MakesRecordStep : {D : Type 0} {G : Ghosts D} → (old new : SlotJournal D G) → Result Phase Refused → Type 0
MakesRecordStep old new result = (slot : Slot) (entry : Entry) (other : Slot)
    → StandsOn slot (Some entry) other old → RecordStep slot entry other old new result

-- and a crash at any moment of it leaves what one before it may leave, or what one within the writer's call may
abbrev pub LeavesInRecord : {D : Type 0} {G : Ghosts D} → (old new : SlotJournal D G) → Type 0
LeavesInRecord {G = G} old new = (slot : Slot) (entry : Entry) (other : Slot) → StandsOn slot (Some entry) other old
    → LeavesOnlyTwo G (sides_of old) (sides_of new)
    (LeavesInCall (disks_of old) (CrashesInRecord slot entry (slot_writer other old) (disks_of old)))

-- so it is where both disks are honest
abbrev pub MayLeaveInRecord : {D : Type 0} {G : Ghosts D} → (old new : SlotJournal D G) → Type 0
MayLeaveInRecord old new = AreHonest old → LeavesInRecord old new

-- why a record does not go on: its disk call failed, or one had failed before
pub data IsRecordRefusal {D : Type 0} {G : Ghosts D} (old new : SlotJournal D G) : Refused → Type 0 where
  record_device : HasFaulted new → FailsOnce G old.current new.current → IsRecordRefusal old new refusals.Disk
  record_after_failure : HasFaulted old → IsRecordRefusal old new refusals.Failed
