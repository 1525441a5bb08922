-- The commands that a writer keeps, the room that it has for one more, and a checkpoint of them and of those that wait.
use Rattle.std.specs.Prelude.{◌≡◌, ◌<◌, ◌+◌, ◌++◌, ℕ, Bool, true, List, [], Result, Ok, filter, length, vec_capacity, vec_len}
use Rattle.std.specs.Global.{Vec}
use Rattle.std.specs.declared.collections.VecDeque.{VecDeque}
use Rattle.ide_disk.specs.declared.disk.Disk.{Ghosts}
use Rattle.ide_journal.specs.Format.{Entry}
use Rattle.ide_journal.specs.Lists.{entries_of}
use Rattle.ide_journal.specs.declared.record.RawRecord.{RawRecord}
use Rattle.ide_slot_journal.specs.Plans.{Plans}
use Rattle.ide_slot_journal.specs.Stands.{HasFaulted, HasNoNext, records_stored}
use Rattle.ide_slot_journal.specs.declared.journal.SlotJournal.{SlotJournal}
use Rattle.ide_slots.specs.Records.{all_numbered}
use Rattle.ide_slots.specs.Slot.{AreCommands, NumberedEntry, Slot}
use Rattle.ide_slots.specs.declared.record.NumberedRecord.{NumberedRecord}
use Rattle.ide_wire.specs.declared.refused.Refused.{Refused}
use Rattle.ide_wire.specs.declared.refused.Refused.TheVariants.{Failed, Limit, NoMemory}
use Rattle.ide_store.specs.TwoDisks.{commands_from, is_command}

-- these are the commands among records that a slot has
abbrev pub AreCommandsAmong : (found : List NumberedRecord) → Vec NumberedRecord → Type 0
AreCommandsAmong found commands = all_numbered commands.items ≡ filter is_command (all_numbered found)

-- those among records that are numbered from the one on are kept behind the others
abbrev pub AddsCommands : (from : ℕ) → List RawRecord → (old new : Vec NumberedRecord) → Type 0
AddsCommands from added old new = all_numbered new.items ≡ all_numbered old.items ++ commands_from from (entries_of added)

-- the next record is one of so many that wait, it has a number, and there is room for it among the commands
pub record HasRoom {D : Type 0} {G : Ghosts D} (journal : SlotJournal D G) (waiting : ℕ) (commands : Vec NumberedRecord)
    : Type 0 where
  pub waits : 0 < waiting
  pub numbered : records_stored journal < 4294967295
  pub room : vec_len commands < vec_capacity commands

-- as long as a next record is under way
abbrev pub HasRoomForNext : {D : Type 0} {G : Ghosts D} → SlotJournal D G → ℕ → Vec NumberedRecord → Type 0
HasRoomForNext journal waiting commands = (HasNoNext journal → ⊥) → (HasFaulted journal → ⊥) → HasRoom journal waiting commands

-- ---- a checkpoint of all records
module _ {D : Type 0} {G : Ghosts D} where
  -- a checkpoint with that base is planned, of these commands and parts
  pub record PlansOver (base : ℕ) (commands : List NumberedEntry) (parts : List Entry) (old new : SlotJournal D G) : Type 0 where
    pub planned : Slot
    pub plans : Plans planned old new
    pub base_is : planned.base ≡ base
    pub commands_are : planned.commands ≡ commands
    pub parts_are : planned.parts ≡ parts
    pub bare : planned.rest ≡ []

  -- why none is: want of memory; a disk call that failed before; or a checkpoint with that base cannot have these commands
  pub data IsPlanOverRefusal (base : ℕ) (commands : List NumberedEntry) (old : SlotJournal D G) : Refused → Type 0 where
    over_memory : IsPlanOverRefusal base commands old NoMemory
    over_failure : HasFaulted old → IsPlanOverRefusal base commands old Failed
    over_limit : 4294967295 < base → IsPlanOverRefusal base commands old Limit
    over_unfit : (AreCommands 0 base commands → ⊥) → IsPlanOverRefusal base commands old Limit

  -- ---- of these commands, and of those among the records that wait
  module _ (commands : List NumberedRecord) (waiting : List RawRecord) (old : SlotJournal D G) where
    abbrev pub base_with : ℕ
    base_with = records_stored old + length waiting

    abbrev pub commands_with : List NumberedEntry
    commands_with = all_numbered commands ++ commands_from (records_stored old) (entries_of waiting)

    -- one is planned, with these parts
    abbrev pub PlansWith : List Entry → SlotJournal D G → Type 0
    PlansWith parts new = PlansOver base_with commands_with parts old new

    -- there are none
    abbrev pub HasNone : Type 0
    HasNone = commands_with ≡ []

    -- why none is planned
    abbrev pub IsPlanWithRefusal : Refused → Type 0
    IsPlanWithRefusal refused = IsPlanOverRefusal base_with commands_with old refused

  -- ---- of the commands that a writer keeps, and of those among the records that wait with it
  module _ {A : Type 0} (commands : Vec NumberedRecord) (waiting : VecDeque RawRecord A) where
    -- where the answer is true, one is planned, with these parts
    abbrev pub PlansKept : {E : Type 0} → Result Bool E → List RawRecord → (old new : SlotJournal D G) → Type 0
    PlansKept result parts old new = result ≡ Ok true → PlansWith commands.items waiting.items old (entries_of parts) new

    -- and this is why none is
    abbrev pub RefusesKept : SlotJournal D G → Refused → Type 0
    RefusesKept old refused = IsPlanWithRefusal commands.items waiting.items old refused
