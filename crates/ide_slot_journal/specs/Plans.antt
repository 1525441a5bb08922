-- What planning a checkpoint does, whatever slot is current.
use Rattle.std.specs.Prelude.{◌≡◌, ℕ, ◌+◌, List, Option}
use Rattle.ide_disk.specs.declared.disk.Disk.{Ghosts}
use Rattle.ide_journal.specs.Format.{Entry}
use Rattle.ide_journal.specs.Lists.{entries_of}
use Rattle.ide_journal.specs.declared.record.RawRecord.{RawRecord}
use Rattle.ide_slots.specs.Records.{all_numbered}
use Rattle.ide_slots.specs.Slot.{Slot}
use Rattle.ide_slots.specs.Two.{IsUpTo}
use Rattle.ide_slots.specs.TwoCalls.{PlansCheckpoint}
use Rattle.ide_slots.specs.declared.record.NumberedRecord.{NumberedRecord}
use Rattle.ide_wire.specs.declared.refused.Refused.{Refused}
use Rattle.ide_wire.specs.declared.refused.Refused.TheVariants as refusals
use Rattle.ide_slot_journal.specs.Planning.{checkpoint_slot}
use Rattle.ide_slot_journal.specs.Stages.{stage_of}
use Rattle.ide_slot_journal.specs.Stands.{HasFaulted, StandsOn, records_stored, slot_writer}
use Rattle.ide_slot_journal.specs.declared.journal.SlotJournal.{SlotJournal}

-- the slot of a checkpoint with that base, and these commands and parts
abbrev pub planned_slot : {D : Type 0} {G : Ghosts D} → SlotJournal D G → (base : ℕ) → List NumberedRecord → List RawRecord → Slot
planned_slot journal base commands parts =
    checkpoint_slot journal.tag (journal.generation + 1) base (all_numbered commands) (entries_of parts)

-- so many of its records a checkpoint may stand for: all that are stored, where none is under way, or more
abbrev pub MayHaveBase : {D : Type 0} {G : Ghosts D} → SlotJournal D G → (base : ℕ) → Type 0
MayHaveBase journal base = IsUpTo (records_stored journal) base (stage_of journal.stage)

-- wherever the journal stands, a checkpoint with that slot is planned
pub record PlansOn {D : Type 0} {G : Ghosts D} (planned : Slot) (old new : SlotJournal D G) (slot : Slot) (any : Slot)
    (next : Option Entry) : Type 0 where
  pub plans : PlansCheckpoint slot (slot_writer any old) (slot_writer planned new)
  pub stands : StandsOn slot next planned new

abbrev pub Plans : {D : Type 0} {G : Ghosts D} → (planned : Slot) (old new : SlotJournal D G) → Type 0
Plans planned old new = (slot : Slot) (next : Option Entry) (any : Slot) → StandsOn slot next any old
    → PlansOn planned old new slot any next

-- with the slot of these
abbrev pub PlansFrom : {D : Type 0} {G : Ghosts D} → (base : ℕ) → List NumberedRecord → List RawRecord → (old new : SlotJournal D G) → Type 0
PlansFrom base commands parts old new = Plans (planned_slot old base commands parts) old new

-- no plan changes these
pub record KeepsSides {D : Type 0} {G : Ghosts D} (old new : SlotJournal D G) : Type 0 where
  pub side : new.side ≡ old.side
  pub generation : new.generation ≡ old.generation
  pub base : new.base ≡ old.base
  pub version : new.version ≡ old.version
  pub tag : new.tag ≡ old.tag
  pub other : new.other ≡ old.other

-- why none is planned: want of memory, or a disk call that failed before
pub data IsPlanRefusal {D : Type 0} {G : Ghosts D} (old : SlotJournal D G) : Refused → Type 0 where
  plan_memory : IsPlanRefusal old refusals.NoMemory
  plan_after_failure : HasFaulted old → IsPlanRefusal old refusals.Failed
