-- What the writing half of a store on two disks does to the records that were sealed.
use Rattle.std.specs.Prelude.{◌≡◌, ◌⊎◌, ℕ, ◌+◌, ◌<◌, Bool, true, false, List, [], ◌∷◌, ◌++◌, Result, Ok, Err, drop, filter, length, map, take, OnOk}
use Rattle.std.specs.Global.{Vec}
use Rattle.ide_disk.specs.Disk.{DiskState}
use Rattle.ide_disk.specs.OneCall.{FailsOnce}
use Rattle.ide_disk.specs.declared.disk.Disk.{Ghosts}
use Rattle.ide_journal.specs.Format.{Entry, head_of}
use Rattle.ide_journal.specs.Lists.{entry_of}
use Rattle.ide_journal.specs.declared.record.RawRecord.{RawRecord}
use Rattle.ide_journal.specs.declared.version.Version.TheVariants.{Two}
use Rattle.ide_slot_journal.specs.Moments.{LeavesOnlyTwo}
use Rattle.ide_slot_journal.specs.Opened.{OpensOn, states_of}
use Rattle.ide_slot_journal.specs.Plans.{Plans, PlansFrom, planned_slot}
use Rattle.ide_slot_journal.specs.Stands.{HasFaulted, IsCheckpointing, IsFilling, disks_of, sides_of, slot_writer}
use Rattle.ide_slot_journal.specs.declared.journal.SlotJournal.{SlotJournal}
use Rattle.ide_slots.specs.Records.{all_numbered}
use Rattle.ide_slots.specs.Sides.{Shows, Sides}
use Rattle.ide_slots.specs.Slot.{AreCommands, Slot, first_slot, slot_count, with_more}
use Rattle.ide_slots.specs.Two.{LeavesTwo, SlotWriter, reads_two}
use Rattle.ide_slots.specs.declared.record.NumberedRecord.{NumberedRecord}
use Rattle.ide_wire.specs.declared.refused.Refused.{Refused}
use Rattle.ide_wire.specs.declared.refused.Refused.TheVariants.{Disk, Failed, Limit, NoMemory}
use Rattle.ide_store.specs.Handing.{HandsAll, HandsTo}
use Rattle.ide_store.specs.Table.{TableData}
use Rattle.ide_store.specs.TwoDisks.{AreSpelledUpTo, FailsTwo, commands_of, is_command, sealing_version}
use Rattle.ide_store.specs.Versioned.{VersionedEntry, plain}
use Rattle.ide_slot_store.specs.Commands.{AreCommandsAmong}
use Rattle.ide_slot_store.specs.Writing.{BeginsFirst, DidCall, DidFail, DidStore, StandsBehind}
use Rattle.ide_slot_store.specs.declared.writer.SlotWriterHalf.{SlotWriterHalf}

-- no disk was called, and the writer stands where it did
pub record IsQuiet {D : Type 0} {G : Ghosts D} (old new : SlotJournal D G) : Type 0 where
  pub work : (other : Slot) → slot_writer other new ≡ slot_writer other old
  pub side : new.side ≡ old.side
  pub current : new.current ≡ old.current
  pub other : new.other ≡ old.other
  pub filler : new.filler ≡ old.filler

-- no call of a disk failed
abbrev pub FailsNone : {D : Type 0} {G : Ghosts D} → (old new : SlotJournal D G) → Type 0
FailsNone {G = G} old new =
    let before = sides_of old in
    let after = sides_of new in
    (G.failures after.a ≡ G.failures before.a) × (G.failures after.b ≡ G.failures before.b)

-- one did, of the current disk or of the other
abbrev pub FailsOne : {D : Type 0} {G : Ghosts D} → (old new : SlotJournal D G) → Type 0
FailsOne {G = G} old new = FailsOnce G old.current new.current ⊎ FailsOnce G old.other new.other

-- so it is where the refusal is the disk's
abbrev pub TellsFault : {D T : Type 0} {G : Ghosts D} → Result T Refused → (old new : SlotJournal D G) → Type 0
TellsFault result old new = result ≡ Err Disk → FailsOne old new

-- a disk call is made, or one had failed before: none fails at Ok, and one did where the refusal is the disk's
pub record TellsCall {D : Type 0} {G : Ghosts D} (result : Result Bool Refused) (old new : SlotJournal D G) : Type 0 where
  pub made : result ≡ Ok false → ⊥
  pub failures : OnOk result (FailsNone old new)
  pub fault : TellsFault result old new
  pub failed : HasFaulted old → result ≡ Err Failed

-- once a disk call failed, that stays so, and a record counts as under way
abbrev pub StaysFaulted : {D E : Type 0} {G : Ghosts D} → Result Bool E → (old new : SlotJournal D G) → Type 0
StaysFaulted result old new = HasFaulted old → (result ≡ Ok true) × HasFaulted new

-- what a crash at some moment of a step leaves: at once, what one before the step may leave; or behind a failure, what one may
-- leave behind a call of the step that failed, as a call counts that a crash ends, and which a checkpoint that waits begins first
pub data MayLeave (records : List VersionedEntry) (stored : ℕ) (work : SlotWriter) (disks : Sides DiskState) (left : Sides (List ℕ))
    : Type 0 where
  at_once : LeavesTwo disks left → MayLeave records stored work disks left
  behind_failure : (mid : SlotWriter) (failed : Sides DiskState) → BeginsFirst records stored work disks mid
      → FailsTwo records stored mid disks failed → LeavesTwo failed left → MayLeave records stored work disks left

module _ {D : Type 0} {G : Ghosts D} where
  -- these are all that were sealed; so many of them are stored, in this current slot, and the others wait; the commands among
  -- the stored ones are kept
  pub record Writes (slot other : Slot) (records : List VersionedEntry) (stored : ℕ) (half : SlotWriterHalf D G) : Type 0 where
    pub behind : StandsBehind slot other records stored half.journal
    pub waiting : map entry_of half.waiting.items ≡ map plain (drop stored records)
    pub commands : all_numbered half.commands.items ≡ commands_of (take stored records)

  -- no record was sealed, and no checkpoint is planned
  pub record IsNewHalf (tag : ℕ) (half : SlotWriterHalf D G) : Type 0 where
    pub writes : (other : Slot) → Writes (first_slot (head_of Two tag) []) other [] 0 half
    pub rests : IsCheckpointing half.journal → ⊥

  -- it was opened with the slot that is current, keeps the commands that it found, and writes behind the records of that slot,
  -- where it is shown
  pub record OpensStore (tag : ℕ) (a b : D) (half : SlotWriterHalf D G) (found : List NumberedRecord) : Type 0 where
    pub opens : OpensOn tag (states_of G a b) half.journal found
    pub writes : Shows opens.slot (reads_two (states_of G a b)) → (other : Slot) (records : List VersionedEntry)
        → length records ≡ slot_count opens.slot → commands_of records ≡ filter is_command (all_numbered found)
        → Writes opens.slot other records (length records) half
    pub commands : AreCommandsAmong found half.commands
    pub rests : IsCheckpointing half.journal → ⊥
    pub none : half.waiting.items ≡ []

  -- of the pair that an opening gives
  abbrev pub OpensHalf : (tag : ℕ) (a b : D) → SlotWriterHalf D G × Vec NumberedRecord → Type 0
  OpensHalf tag a b pair = OpensStore tag a b pair.0 pair.1.items

  -- the disks after an opening, in the half or beside the refusal
  abbrev pub half_sides_after : {R : Type 0} → Result (SlotWriterHalf D G × R) (Refused × D × D) → Sides D
  half_sides_after (Ok pair) = sides_of pair.0.journal
  half_sides_after (Err all) = record { a = all.1; b = all.2 }

  -- the journal is as it was, and the records that wait, and the commands
  pub record IsSameHalf (old new : SlotWriterHalf D G) : Type 0 where
    pub journal : new.journal ≡ old.journal
    pub waiting : new.waiting.items ≡ old.waiting.items
    pub commands : new.commands.items ≡ old.commands.items

  -- one record more is sealed, if there may be one, in the version in which records are sealed
  abbrev pub Seals : Entry → (old new : SlotWriterHalf D G) → Type 0
  Seals entry old new = (slot other : Slot) (records : List VersionedEntry) (stored : ℕ) → length records < 4294967295
      → Writes slot other records stored old
      → Writes slot other (records ++ (sealing_version (slot_writer other old.journal), entry) ∷ []) stored new

  module _ (slot other : Slot) (records : List VersionedEntry) (stored : ℕ) (old new : SlotWriterHalf D G) where
    -- a good call was made that stored no record; the same slot is current, or that of the checkpoint
    pub record HasCalled : Type 0 where
      pub event : DidCall other records stored old.journal new.journal
      pub now : Slot
      pub now_is : (now ≡ slot) ⊎ (now ≡ other)
      pub tag : now.head.tag ≡ slot.head.tag
      pub writes : Writes now other records stored new

    -- one that stored a record
    pub record HasStored : Type 0 where
      pub event : DidStore other records stored old.journal new.journal
      pub writes : Writes (with_more slot event.entry) other records (stored + 1) new

    -- no call was made, since all are stored, and it is not a checkpoint's turn
    pub record HasRested : Type 0 where
      pub all : stored ≡ length records
      pub no_turn : IsFilling old.journal → ⊥
      pub same : IsSameHalf old new

    -- no call was made, for want of memory
    pub record HasWaited : Type 0 where
      pub quiet : IsQuiet old.journal new.journal
      pub writes : Writes slot other records stored new

    -- what a call of a disk comes to: a good one, one that stores a record, or one that failed
    pub data CallsTo : Result Bool Refused → Type 0 where
      calls : HasCalled → CallsTo (Ok true)
      stores : HasStored → CallsTo (Ok true)
      fails : DidFail other records stored old.journal new.journal → CallsTo (Err Disk)

    -- and what a step does: such a call, or none
    pub data StepsTo : Result Bool Refused → Type 0 where
      makes : {result : Result Bool Refused} → CallsTo result → StepsTo result
      rests : HasRested → StepsTo (Ok false)
      waits : HasWaited → StepsTo (Err NoMemory)

  -- over whatever records it writes, with whatever slot for its checkpoint
  abbrev pub StepsOver : (old new : SlotWriterHalf D G) → Result Bool Refused → Type 0
  StepsOver old new result = (slot other : Slot) (records : List VersionedEntry) (stored : ℕ) → Writes slot other records stored old
      → StepsTo slot other records stored old new result

  abbrev pub CallsOver : (old new : SlotWriterHalf D G) → Result Bool Refused → Type 0
  CallsOver old new result = (slot other : Slot) (records : List VersionedEntry) (stored : ℕ) → Writes slot other records stored old
      → CallsTo slot other records stored old new result

  -- and whatever a crash at any moment of the step leaves, one of the writer may leave, at once or behind a failed call
  abbrev pub CrashesStep : (old new : SlotWriterHalf D G) → Type 0
  CrashesStep old new = (slot other : Slot) (records : List VersionedEntry) (stored : ℕ) → Writes slot other records stored old
      → LeavesOnlyTwo G (sides_of old.journal) (sides_of new.journal)
      (MayLeave records stored (slot_writer other old.journal) (disks_of old.journal))

  -- it writes the records that it wrote
  abbrev pub KeepsWriting : (old new : SlotWriterHalf D G) → Type 0
  KeepsWriting old new = (slot other : Slot) (records : List VersionedEntry) (stored : ℕ) → Writes slot other records stored old
      → Writes slot other records stored new

  -- and with this slot for its checkpoint, where they are of its version from its base on
  abbrev pub PlansWriting : Slot → (old new : SlotWriterHalf D G) → Type 0
  PlansWriting planned old new = (slot other : Slot) (records : List VersionedEntry) (stored : ℕ) → Writes slot other records stored old
      → AreSpelledUpTo planned.base old.journal.version planned.head.version records stored → Writes slot planned records stored new

  -- with the slot of that base, and of these commands and parts
  abbrev pub WritesGiven : (base : ℕ) → List NumberedRecord → List RawRecord → (old new : SlotWriterHalf D G) → Type 0
  WritesGiven base commands parts old new = PlansWriting (planned_slot old.journal base commands parts) old new

  -- which its journal plans
  abbrev pub PlansGiven : (base : ℕ) → List NumberedRecord → List RawRecord → (old new : SlotWriterHalf D G) → Type 0
  PlansGiven base commands parts old new = PlansFrom base commands parts old.journal new.journal

  -- it takes over what waits with the half that works, where none waits with itself; and all of it, behind what waits
  abbrev pub TakesFrom : {F : Type 0} → (table new_table : TableData F) → (old new : SlotWriterHalf D G) → Type 0
  TakesFrom table new_table old new = HandsTo table new_table old.waiting.items new.waiting.items

  abbrev pub TakesAllFrom : {F : Type 0} → (table new_table : TableData F) → (old new : SlotWriterHalf D G) → Type 0
  TakesAllFrom table new_table old new = HandsAll table new_table old.waiting.items new.waiting.items

  -- all records are stored
  abbrev pub HasStoredAll : SlotWriterHalf D G → Type 0
  HasStoredAll half = (slot other : Slot) (records : List VersionedEntry) (stored : ℕ) → Writes slot other records stored half
      → stored ≡ length records

  -- why none is put under way: want of memory, or more records than there may be, which it never writes
  pub data IsBeginRefusal (old : SlotWriterHalf D G) : Refused → Type 0 where
    memory : IsBeginRefusal old NoMemory
    limit : ((slot other : Slot) (records : List VersionedEntry) (stored : ℕ) → Writes slot other records stored old → ⊥)
        → IsBeginRefusal old Limit

  -- ---- a checkpoint of all records
  -- it is planned, with the commands among them and these parts
  pub record PlansAll (parts : List Entry) (slot other : Slot) (records : List VersionedEntry) (stored : ℕ) (old new : SlotWriterHalf D G)
      : Type 0 where
    pub planned : Slot
    pub plans : Plans planned old.journal new.journal
    pub base : planned.base ≡ length records
    pub commands : planned.commands ≡ commands_of records
    pub parts_are : planned.parts ≡ parts
    pub bare : planned.rest ≡ []
    pub writes : Writes slot planned records stored new

  -- over whatever records it writes
  abbrev pub PlansAllOver : List Entry → (old new : SlotWriterHalf D G) → Type 0
  PlansAllOver parts old new = (slot other : Slot) (records : List VersionedEntry) (stored : ℕ) → Writes slot other records stored old
      → PlansAll parts slot other records stored old new

  -- there is no command among them
  abbrev pub HasNoCommand : SlotWriterHalf D G → Type 0
  HasNoCommand half = (slot other : Slot) (records : List VersionedEntry) (stored : ℕ) → Writes slot other records stored half
      → commands_of records ≡ []

  -- why none is planned: want of memory; a disk call that failed before; or it writes no records whose commands ascend
  pub data IsPlanAllRefusal (old : SlotWriterHalf D G) : Refused → Type 0 where
    all_memory : IsPlanAllRefusal old NoMemory
    all_failed : HasFaulted old.journal → IsPlanAllRefusal old Failed
    all_unfit : ((slot other : Slot) (records : List VersionedEntry) (stored : ℕ) → Writes slot other records stored old
        → AreCommands 0 (length records) (commands_of records) → ⊥) → IsPlanAllRefusal old Limit
