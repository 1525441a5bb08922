-- What the calls of a checkpoint do, whatever slot is current.
use Rattle.std.specs.Prelude.{◌≡◌, ◌≢◌, ◌+◌, Bool, true, false, Option, Result, Ok, Err}
use Rattle.ide_disk.specs.OneCall.{FailsOnce}
use Rattle.ide_disk.specs.declared.disk.Disk.{Ghosts}
use Rattle.ide_journal.specs.Format.{Entry}
use Rattle.ide_journal.specs.declared.version.Version.TheVariants as versions
use Rattle.ide_slots.specs.Sides.{across}
use Rattle.ide_slots.specs.Slot.{Slot}
use Rattle.ide_slots.specs.Two.{SlotWriter, UnderWay}
use Rattle.ide_slots.specs.TwoCalls.{BeginsCheckpoint, CallsCheckpoint, CrashesInCheckpoint, EndsCheckpoint, FailsCheckpoint}
use Rattle.ide_wire.specs.declared.refused.Refused.{Refused}
use Rattle.ide_wire.specs.declared.refused.Refused.TheVariants as refusals
use Rattle.ide_slot_journal.specs.Fillers.{HasMovedOn}
use Rattle.ide_slot_journal.specs.Moments.{LeavesInCall, LeavesOnlyTwo}
use Rattle.ide_slot_journal.specs.Stands.{AreHonest, HasFaulted, StandsOn, disks_of, filling_of, sides_of, slot_writer}
use Rattle.ide_slot_journal.specs.declared.journal.SlotJournal.{SlotJournal}
use Rattle.ide_slot_journal.specs.declared.stage.FillStage.TheVariants as fills

-- the journal as a writer whose checkpoint has begun its calls
abbrev pub filling_writer : {D : Type 0} {G : Ghosts D} → Slot → SlotJournal D G → SlotWriter
filling_writer other journal = record (slot_writer other journal) { checkpoint = UnderWay other (filling_of journal.filler) }

-- a checkpoint that waits begins them now
abbrev pub BeginsIfWaiting : {D : Type 0} {G : Ghosts D} → Slot → Slot → SlotJournal D G → Type 0
BeginsIfWaiting slot other journal = journal.filler.stage ≡ fills.Waits
    → BeginsCheckpoint slot (slot_writer other journal) (disks_of journal) (filling_writer other journal)

-- a call of a checkpoint: it goes on, or its slot is current (true), or it fails
pub data CheckpointStep {D : Type 0} {G : Ghosts D} (slot : Slot) (next : Option Entry) (other : Slot) (old new : SlotJournal D G)
    : Result Bool Refused → Type 0 where
  checkpoint_called : CallsCheckpoint (filling_writer other old) (disks_of old) (slot_writer other new) (disks_of new)
      → StandsOn slot next other new → CheckpointStep slot next other old new (Ok false)
  checkpoint_ended : EndsCheckpoint (filling_writer other old) (disks_of old) (slot_writer other new) other (disks_of new)
      → StandsOn other next other new → CheckpointStep slot next other old new (Ok true)
  checkpoint_failed : FailsCheckpoint (filling_writer other old) (disks_of old) (disks_of new)
      → CheckpointStep slot next other old new (Err refusals.Disk)

-- wherever the journal stands, it is such a call
abbrev pub MakesCheckpointStep : {D : Type 0} {G : Ghosts D} → (old new : SlotJournal D G) → Result Bool Refused → Type 0
MakesCheckpointStep old new result = (slot : Slot) (next : Option Entry) (other : Slot) → StandsOn slot next other old
    → BeginsIfWaiting slot other old × CheckpointStep slot next other old new result

-- and a crash at any moment of it leaves what one before it may leave, or what one within the writer's call may
abbrev pub LeavesInCheckpoint : {D : Type 0} {G : Ghosts D} → (old new : SlotJournal D G) → Type 0
LeavesInCheckpoint {G = G} old new = (slot : Slot) (next : Option Entry) (other : Slot) → StandsOn slot next other old
    → LeavesOnlyTwo G (sides_of old) (sides_of new)
    (LeavesInCall (disks_of old) (CrashesInCheckpoint (filling_writer other old) (disks_of old)))

-- so it is where both disks are honest
abbrev pub MayLeaveInCheckpoint : {D : Type 0} {G : Ghosts D} → (old new : SlotJournal D G) → Type 0
MayLeaveInCheckpoint old new = AreHonest old → LeavesInCheckpoint old new

-- no call of a checkpoint changes these
pub record KeepsNext {D : Type 0} {G : Ghosts D} (old new : SlotJournal D G) : Type 0 where
  pub tag : new.tag ≡ old.tag
  pub count : new.count ≡ old.count
  pub next : new.next ≡ old.next
  pub tail : new.tail ≡ old.tail

-- a good one that is not the last
pub record FillsOn {D : Type 0} {G : Ghosts D} (old new : SlotJournal D G) : Type 0 where
  pub more : old.filler.stage ≢ fills.Lasts
  pub filler : HasMovedOn old.filler new.filler
  pub current : new.current ≡ old.current
  pub side : new.side ≡ old.side
  pub version : new.version ≡ old.version
  pub generation : new.generation ≡ old.generation
  pub base : new.base ≡ old.base
  pub gate : new.gate ≡ old.gate
  pub end : new.end ≡ old.end
  pub stage : new.stage ≡ old.stage

-- the last one: the other slot is current, behind whose records the closed gate stands
pub record TurnsOver {D : Type 0} {G : Ghosts D} (old new : SlotJournal D G) : Type 0 where
  pub last : old.filler.stage ≡ fills.Lasts
  pub rests : new.filler.stage ≡ fills.Rests
  pub closed : new.filler.closed ≡ false
  pub other : new.other ≡ old.current
  pub side : new.side ≡ across old.side
  pub version : new.version ≡ versions.Two
  pub generation : new.generation ≡ old.filler.generation
  pub base : new.base ≡ old.filler.base
  pub gate : new.gate + 1 ≡ old.filler.at
  pub stage : new.stage ≡ old.stage

abbrev pub FillsOrTurns : {D : Type 0} {G : Ghosts D} → (old new : SlotJournal D G) → Bool → Type 0
FillsOrTurns old new false = FillsOn old new
FillsOrTurns old new true = TurnsOver old new

-- the disk that was called: the current one after the last call
abbrev pub called_disk : {D : Type 0} {G : Ghosts D} → SlotJournal D G → Result Bool Refused → D
called_disk new (Ok true) = new.current
called_disk new (Ok false) = new.other
called_disk new (Err refused) = new.other

-- the other one
abbrev pub still_disk : {D : Type 0} {G : Ghosts D} → SlotJournal D G → Result Bool Refused → D
still_disk new (Ok true) = new.other
still_disk new (Ok false) = new.current
still_disk new (Err refused) = new.current

-- why a checkpoint does not go on: its disk call failed, or one had failed before
pub data IsCheckpointRefusal {D : Type 0} {G : Ghosts D} (old new : SlotJournal D G) : Refused → Type 0 where
  checkpoint_device : HasFaulted new → FailsOnce G old.other new.other → new.filler ≡ old.filler
      → IsCheckpointRefusal old new refusals.Disk
  checkpoint_after_failure : HasFaulted old → IsCheckpointRefusal old new refusals.Failed
