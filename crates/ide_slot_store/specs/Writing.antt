-- A journal on two disks as the writer of a store: its calls are the events of the store.
use Rattle.std.specs.Prelude.{◌≡◌, ◌⊎◌, ℕ, ◌+◌, ◌≤◌, All, Bool, List, [], Option, Some, None, Result, Ok, Err, drop, length, map, slice_get, take}
use Rattle.ide_disk.specs.Disk.{DiskState}
use Rattle.ide_disk.specs.declared.disk.Disk.{Ghosts}
use Rattle.ide_journal.specs.Format.{Entry, Head}
use Rattle.ide_journal.specs.declared.version.Version.{Version}
use Rattle.ide_journal.specs.declared.stage.Phase.{Phase}
use Rattle.ide_slot_journal.specs.Checkpoints.{MakesCheckpointStep}
use Rattle.ide_slot_journal.specs.Making.{StandsEmpty}
use Rattle.ide_slot_journal.specs.Opened.{OpensOn, states_of}
use Rattle.ide_slot_journal.specs.Plans.{Plans}
use Rattle.ide_slot_journal.specs.Records.{MakesRecordStep, PutsNext}
use Rattle.ide_slot_journal.specs.Stands.{HasNoNext, IsCheckpointing, StandsOn, checkpoint_of, disks_of, slot_writer}
use Rattle.ide_slot_journal.specs.declared.journal.SlotJournal.{SlotJournal}
use Rattle.ide_slot_journal.specs.declared.stage.FillStage.TheVariants.{Rests}
use Rattle.ide_slots.specs.Records.{all_numbered}
use Rattle.ide_slots.specs.Sides.{Sides}
use Rattle.ide_slots.specs.Slot.{Slot, slot_count}
use Rattle.ide_slots.specs.Two.{ShowsOne, SlotWriter, reads_two}
use Rattle.ide_slots.specs.TwoCalls.{OpensTwo}
use Rattle.ide_slots.specs.declared.record.NumberedRecord.{NumberedRecord}
use Rattle.ide_wire.specs.declared.refused.Refused.{Refused}
use Rattle.ide_wire.specs.declared.refused.Refused.TheVariants.{Disk}
use Rattle.ide_store.specs.Store.{IsFoundOf}
use Rattle.ide_store.specs.Versioned.{IsPlainEntry, VersionedEntry, in_version}
use Rattle.ide_store.specs.TwoDisks.{AreSpelledFor, BeginsTwo, CallsTwo, FailsTwo, GiveTheSame, HasPlan, HoldsTwo, IsListOf, IsLiveTwo, StoresTwo, unnumbered}
use Rattle.ide_store.specs.World.{Rules}

-- there is no next record, or it is the first of those that are still to be stored, in that version
abbrev pub IsFirstLeft : Version → List VersionedEntry → ℕ → Option Entry → Type 0
IsFirstLeft version records stored None = Unit {0}
IsFirstLeft version records stored (Some entry) = slice_get records stored ≡ Some (version, entry)

-- a checkpoint that waits begins its calls before the first of them; else nothing happens before a call
abbrev pub BeginsFirst : (records : List VersionedEntry) (stored : ℕ) → SlotWriter → Sides DiskState → SlotWriter → Type 0
BeginsFirst records stored work disks mid = (mid ≡ work) ⊎ CallsTwo records stored work disks mid disks

module _ {D : Type 0} {G : Ghosts D} where
  -- the journal has so many of these records, in this current slot, and that slot for its checkpoint, if any; the others can
  -- all be stored, each in the version of the slot in which it will be, and its next record is the first of them, or there is
  -- none
  pub record StandsBehind (slot other : Slot) (records : List VersionedEntry) (stored : ℕ) (journal : SlotJournal D G) : Type 0 where
    pub next : Option Entry
    pub stands : StandsOn slot next other journal
    pub is_next : IsFirstLeft journal.version records stored next
    pub count : slot_count slot ≡ stored
    pub some : stored ≤ length records
    pub few : length records ≤ 4294967295
    pub proper : All IsPlainEntry (drop stored records)
    pub spelled : AreSpelledFor journal.version (checkpoint_of other journal.filler) records stored

  -- of these records so many are in the current slot, which has that tag, and of the others the first may be the next; the
  -- checkpoint, if any, has the first of the records, up to its base
  pub record StandsBehindTwo {Image Step : Type 0} (rules : Rules Image Step VersionedEntry) (tag : ℕ) (other : Slot)
      (records : List VersionedEntry) (stored : ℕ) (journal : SlotJournal D G) : Type 0 where
    pub slot : Slot
    pub behind : StandsBehind slot other records stored journal
    pub tag_is : slot.head.tag ≡ tag
    pub list : IsListOf rules (take stored records) slot
    pub plan : HasPlan rules records (checkpoint_of other journal.filler)

  module _ (other : Slot) (records : List VersionedEntry) (stored : ℕ) (old new : SlotJournal D G) where
    -- a good call was made that stores no record
    pub record DidCall : Type 0 where
      pub mid : SlotWriter
      pub first : BeginsFirst records stored (slot_writer other old) (disks_of old) mid
      pub event : CallsTwo records stored mid (disks_of old) (slot_writer other new) (disks_of new)

    -- one that stored a record
    abbrev pub DidStore : Type 0
    DidStore = StoresTwo records stored (slot_writer other old) (disks_of old) (slot_writer other new) (disks_of new)

    -- one that failed
    pub record DidFail : Type 0 where
      pub mid : SlotWriter
      pub first : BeginsFirst records stored (slot_writer other old) (disks_of old) mid
      pub event : FailsTwo records stored mid (disks_of old) (disks_of new)

  module _ {Image Step : Type 0} (rules : Rules Image Step VersionedEntry) (tag : ℕ) (other : Slot) (records : List VersionedEntry) (stored : ℕ)
      (old new : SlotJournal D G) where
    -- what a call comes to: a good one, one that stores a record, or one that failed
    pub data IsEvent {T : Type 0} : Result T Refused → Type 0 where
      is_call : {value : T} → DidCall other records stored old new → StandsBehindTwo rules tag other records stored new
          → IsEvent (Ok value)
      is_store : {value : T} → DidStore other records stored old new → StandsBehindTwo rules tag other records (stored + 1) new
          → IsEvent (Ok value)
      is_fail : DidFail other records stored old new → IsEvent (Err Disk)

-- a journal that stands so is a writer of the store, and what a crash leaves of it holds the stored records, and perhaps
-- the next one; each of its calls for a record or of a checkpoint is an event of the store, after which it stands so
-- again; and so is the plan of a checkpoint that has all the records
pub record WritesTwoDisks {Image Step D : Type 0} (G : Ghosts D) (rules : Rules Image Step VersionedEntry) (tag : ℕ) (other : Slot)
    (records : List VersionedEntry) (stored : ℕ) : Type 0 where
  pub live : (journal : SlotJournal D G) → StandsBehindTwo rules tag other records stored journal
      → IsLiveTwo rules tag records stored (slot_writer other journal) (disks_of journal)
  pub leaves : (journal : SlotJournal D G) (stands : StandsBehindTwo rules tag other records stored journal)
      (left : Sides (List ℕ)) → ShowsOne stands.slot stands.behind.next (checkpoint_of other journal.filler) left
      → (found : List VersionedEntry) × HoldsTwo rules tag found left × IsFoundOf records stored found
  pub puts_next : (old new : SlotJournal D G) (entry : Entry) → StandsBehindTwo rules tag other records stored old → HasNoNext old
      → slice_get records stored ≡ Some (old.version, entry) → PutsNext entry old new → new.filler ≡ old.filler
      → StandsBehindTwo rules tag other records stored new
  pub record_calls : (old new : SlotJournal D G) (result : Result Phase Refused) → StandsBehindTwo rules tag other records stored old
      → (HasNoNext old → ⊥) → MakesRecordStep old new result → IsEvent rules tag other records stored old new result
  pub checkpoint_calls : (old new : SlotJournal D G) (result : Result Bool Refused)
      → StandsBehindTwo rules tag other records stored old → IsCheckpointing old → MakesCheckpointStep old new result
      → IsEvent rules tag other records stored old new result
  pub plans : (old new : SlotJournal D G) (planned : Slot) → StandsBehindTwo rules tag other records stored old
      → Plans planned old new → IsListOf rules records planned
      → BeginsTwo rules tag records (slot_writer other old) (slot_writer planned new)
      × StandsBehindTwo rules tag planned records stored new

-- a journal that was opened stands behind whatever records the disks hold, and its records give back their images; and a
-- new one stands behind none
pub record BeginsTwoDisks {Image Step D : Type 0} (G : Ghosts D) (rules : Rules Image Step VersionedEntry) (tag : ℕ) (other : Slot)
    : Type 0 where
  pub opens : (a b : D) (journal : SlotJournal D G) (found : List NumberedRecord) (records : List VersionedEntry)
      → OpensOn tag (states_of G a b) journal found → HoldsTwo rules tag records (reads_two (states_of G a b))
      → OpensTwo (states_of G a b) (slot_writer other journal) (disks_of journal)
      × StandsBehindTwo rules tag other records (length records) journal
      × GiveTheSame rules (in_version journal.version (map unnumbered (all_numbered found))) records
  pub created : (head : Head) (journal : SlotJournal D G) → head.tag ≡ tag → journal.filler.stage ≡ Rests
      → StandsEmpty head journal → StandsBehindTwo rules tag other [] 0 journal

-- over the instance of each tag, whatever slot its checkpoint has, and whatever records it writes
pub record JournalsWriteTwo {Image Step D : Type 0} (G : Ghosts D) (rules : Rules Image Step VersionedEntry) : Type 0 where
  pub writes : (tag : ℕ) (other : Slot) (records : List VersionedEntry) (stored : ℕ) → WritesTwoDisks G rules tag other records stored
  pub begins : (tag : ℕ) (other : Slot) → BeginsTwoDisks G rules tag other
