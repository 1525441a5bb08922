-- Two slots on two disks as a store: what a slot has of the list of all records.
use Rattle.std.specs.Prelude.{◌≡◌, ◌≤◌, ◌&&◌, ◌↔◌, ℕ, All, Bool, List, ◌++◌, Option, Some, drop, filter, length, map, nat_le, slice_get, take}
use Rattle.std.specs.Option.{option_map}
use Rattle.ide_disk.specs.Disk.{DiskState, settled}
use Rattle.ide_journal.specs.Format.{Entry}
use Rattle.ide_journal.specs.declared.version.Version.{Version}
use Rattle.ide_slots.specs.Sides.{Shows, Sides}
use Rattle.ide_slots.specs.Slot.{NumberedEntry, Slot, numbered_from, slot_count}
use Rattle.ide_slots.specs.Two.{CanBeNext, Checkpoint, LeavesTwo, NotBegun, Planned, SlotWriter, StandsTwo, UnderWay, reads_two}
use Rattle.ide_slots.specs.TwoCalls.{BeginsCheckpoint, CallsCheckpoint, CallsRecord, EndsCheckpoint, FailsCheckpoint, FailsRecord, OpensTwo, PlansCheckpoint, StopsTwo, StoresRecord}
use Rattle.ide_store.specs.Store.{Store}
use Rattle.ide_store.specs.Versioned.{IsIn, IsPlainEntry, VersionedEntry, in_version, plain}
use Rattle.ide_store.specs.World.{IsFolded, Rules}

-- a load or a root
abbrev pub is_command : NumberedEntry → Bool
is_command r = nat_le 1 r.1.0 && nat_le r.1.0 2

-- the commands among records that are numbered from the one on
abbrev pub commands_from : ℕ → List Entry → List NumberedEntry
commands_from number records = filter is_command (numbered_from number records)

-- the commands among the records, under their numbers: both versions spell them alike
abbrev pub commands_of : List VersionedEntry → List NumberedEntry
commands_of records = commands_from 0 (map plain records)

-- a record without its number
abbrev pub unnumbered : NumberedEntry → Entry
unnumbered r = r.1

-- the records give back the same images as the others
abbrev pub GiveTheSame : {Image Step R : Type 0} → Rules Image Step R → List R → List R → Type 0
GiveTheSame {Image} rules records others = (image : Image) → IsFolded rules records image ↔ IsFolded rules others image

-- a slot has a list of records: the commands of those below its base; the parts that come after these, in the slot's
-- version, to the image of all below the base; and the others as they are, which are of that version
pub record IsListOf {Image Step : Type 0} (rules : Rules Image Step VersionedEntry) (records : List VersionedEntry) (slot : Slot)
    : Type 0 where
  pub within : slot.base ≤ length records
  pub commands : slot.commands ≡ commands_of (take slot.base records)
  pub image :
      GiveTheSame rules (in_version slot.head.version (map unnumbered slot.commands ++ slot.parts)) (take slot.base records)
  pub rest : in_version slot.head.version slot.rest ≡ drop slot.base records

-- what is left holds the records: it shows a slot of that tag that has them
pub record HoldsTwo {Image Step : Type 0} (rules : Rules Image Step VersionedEntry) (tag : ℕ) (records : List VersionedEntry)
    (left : Sides (List ℕ)) : Type 0 where
  pub slot : Slot
  pub tag_is : slot.head.tag ≡ tag
  pub shows : Shows slot left
  pub list : IsListOf rules records slot

-- the slot of a checkpoint has the first of the records, up to its base
abbrev pub HasPlan : {Image Step : Type 0} → Rules Image Step VersionedEntry → List VersionedEntry → Checkpoint → Type 0
HasPlan rules records NotBegun = Unit {0}
HasPlan rules records (Planned next) = IsListOf rules (take next.base records) next
HasPlan rules records (UnderWay next fill) = IsListOf rules (take next.base records) next

-- the version in which records are sealed: that of a checkpoint's slot, once one is begun
abbrev pub version_with : Version → Checkpoint → Version
version_with version NotBegun = version
version_with version (Planned next) = next.head.version
version_with version (UnderWay next fill) = next.head.version

abbrev pub sealing_version : SlotWriter → Version
sealing_version work = version_with work.version work.checkpoint

-- the records that are still to be stored are of that version up to that number, which they reach, and of the other one from
-- there on
pub record AreSpelledUpTo (number : ℕ) (version other : Version) (records : List VersionedEntry) (stored : ℕ) : Type 0 where
  pub within : number ≤ length records
  pub below : All (IsIn version) (drop stored (take number records))
  pub others : All (IsIn other) (drop number records)

-- each is of the version of the slot in which it will be stored: the current one, or that of a checkpoint from its base on
abbrev pub AreSpelledFor : Version → Checkpoint → List VersionedEntry → ℕ → Type 0
AreSpelledFor version NotBegun records stored = All (IsIn version) (drop stored records)
AreSpelledFor version (Planned next) records stored = AreSpelledUpTo next.base version next.head.version records stored
AreSpelledFor version (UnderWay next fill) records stored = AreSpelledUpTo next.base version next.head.version records stored

-- what the journal has of the next record, if there is one
abbrev pub next_entry : List VersionedEntry → ℕ → Option Entry
next_entry records stored = option_map plain (slice_get records stored)

-- the writer stands with a slot that has the stored records; those that are still to be stored are entries, each of the
-- version that its slot has, and the first of them is the next
pub record IsLiveTwo {Image Step : Type 0} (rules : Rules Image Step VersionedEntry) (tag : ℕ) (records : List VersionedEntry)
    (stored : ℕ) (work : SlotWriter) (disks : Sides DiskState) : Type 0 where
  pub slot : Slot
  pub tag_is : slot.head.tag ≡ tag
  pub list : IsListOf rules (take stored records) slot
  pub stands : StandsTwo slot (next_entry records stored) work disks
  pub some : stored ≤ length records
  pub few : length records ≤ 4294967295
  pub proper : All IsPlainEntry (drop stored records)
  pub spelled : AreSpelledFor work.version work.checkpoint records stored
  pub plan : HasPlan rules records work.checkpoint

-- a slot of as many records as are stored, and the one that is next, in the writer's version; a call looks at no more of
-- the slot
pub record IsNextBehind (records : List VersionedEntry) (stored : ℕ) (version : Version) (slot : Slot) (entry : Entry)
    : Type 0 where
  pub count : slot_count slot ≡ stored
  pub next_is : slice_get records stored ≡ Some (version, entry)

-- a good call that stores no record: one for the next; or a checkpoint begins its calls; or makes one; or the last one
pub data CallsTwo (records : List VersionedEntry) (stored : ℕ) (work : SlotWriter) (disks : Sides DiskState)
    (new : SlotWriter) (after : Sides DiskState) : Type 0 where
  ForRecord : (slot : Slot) (entry : Entry) → IsNextBehind records stored work.version slot entry
      → CallsRecord slot entry work disks new after → CallsTwo records stored work disks new after
  BeginsCalls : (slot : Slot) → slot_count slot ≡ stored → BeginsCheckpoint slot work disks new → after ≡ disks
      → CallsTwo records stored work disks new after
  InCheckpoint : CallsCheckpoint work disks new after → CallsTwo records stored work disks new after
  LastInCheckpoint : (next : Slot) → EndsCheckpoint work disks new next after
      → CallsTwo records stored work disks new after

-- one that stores the next record
pub record StoresTwo (records : List VersionedEntry) (stored : ℕ) (work : SlotWriter) (disks : Sides DiskState)
    (new : SlotWriter) (after : Sides DiskState) : Type 0 where
  pub slot : Slot
  pub entry : Entry
  pub next : IsNextBehind records stored work.version slot entry
  pub stores : StoresRecord slot entry work disks new after

-- a failed one, for the next record or of a checkpoint
pub data FailsTwo (records : List VersionedEntry) (stored : ℕ) (work : SlotWriter) (disks after : Sides DiskState) : Type 0 where
  AtRecord : (slot : Slot) (entry : Entry) → IsNextBehind records stored work.version slot entry
      → FailsRecord slot entry work disks after → FailsTwo records stored work disks after
  AtCheckpoint : FailsCheckpoint work disks after → FailsTwo records stored work disks after

-- a checkpoint is planned over all the records: its slot has them, and nothing behind the checkpoint
pub record BeginsTwo {Image Step : Type 0} (rules : Rules Image Step VersionedEntry) (tag : ℕ) (records : List VersionedEntry)
    (work new : SlotWriter) : Type 0 where
  pub slot : Slot
  pub tag_is : slot.head.tag ≡ tag
  pub generation : work.generation ≡ slot.generation
  pub plans : PlansCheckpoint slot work new
  pub list : IsListOf rules records plans.next

-- two slots on two disks, made for the instance of that tag, as a store
abbrev pub two_disks : {Image Step : Type 0} → Rules Image Step VersionedEntry → ℕ → Store VersionedEntry
two_disks rules tag = record {
  Disks = Sides DiskState;
  Left = Sides (List ℕ);
  Work = SlotWriter;
  reads = reads_two;
  crashed = λ left. record { a = settled left.a; b = settled left.b };
  Leaves = LeavesTwo;
  Holds = HoldsTwo rules tag;
  Fits = λ work number r. IsIn (sealing_version work) r × CanBeNext number (Some r.1);
  Live = IsLiveTwo rules tag;
  Calls = CallsTwo;
  Stores = StoresTwo;
  Fails = FailsTwo;
  Begins = BeginsTwo rules tag;
  Opens = OpensTwo;
  Stops = StopsTwo;
}
