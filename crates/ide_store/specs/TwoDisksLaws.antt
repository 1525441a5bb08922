-- Laws of two disks as a store.
use Rattle.std.specs.Prelude.{◌≡◌, ◌≢◌, ◌⊎◌, ◌<◌, ◌≤◌, ◌++◌, ℕ, All, List, [], filter, length, map}
use Rattle.ide_batch.specs.Fold.{ProgramImage}
use Rattle.ide_disk.specs.Disk.{DiskState}
use Rattle.ide_journal.specs.Format.{Entry, Head, Holds}
use Rattle.ide_journal.specs.declared.version.Version.TheVariants.{Two}
use Rattle.ide_slots.specs.Sides.{Sides, two_sides}
use Rattle.ide_slots.specs.Slot.{IsClosedSlot, IsPartEntry, Slot, numbered_from, records_of}
use Rattle.ide_slots.specs.declared.side.Side.TheVariants.{First}
use Rattle.ide_slots.specs.Two.{NotBegun, SlotWriter, first_disk, first_writer}
use Rattle.ide_store.specs.Machine.{ProgramStep, slot_machine}
use Rattle.ide_store.specs.Places.{OnTwoDisks}
use Rattle.ide_store.specs.Recovery.{PlaceAnswers}
use Rattle.ide_store.specs.Store.{StoreLaws}
use Rattle.ide_store.specs.Table.{Analysis, forms_of}
use Rattle.ide_store.specs.TwoDisks.{BeginsTwo, CallsTwo, GiveTheSame, HoldsTwo, IsListOf, IsLiveTwo, StoresTwo, commands_of, is_command, two_disks, unnumbered}
use Rattle.ide_store.specs.Versioned.{VersionedEntry, in_version}
use Rattle.ide_store.specs.World.{AreAlike, EveryRunRecovers, IsFolded, LeadTo, Rules}

-- what records and parts do over slots, each in its version
abbrev pub slots_of : {F L : Type 0} → Analysis F L → Rules (ProgramImage F) (ProgramStep F) VersionedEntry
slots_of a = slot_machine a.functions a.same (forms_of a)

-- for the instance of each tag they keep what a store has to
abbrev pub TwoDisksKeep : {Image Step : Type 0} → Rules Image Step VersionedEntry → Type 0
TwoDisksKeep rules = (tag : ℕ) → StoreLaws (AreAlike rules) (two_disks rules tag)

-- so every run from a new store recovers
abbrev pub TwoDisksRecover : {Image Step : Type 0} → Rules Image Step VersionedEntry → Type 0
TwoDisksRecover rules = (tag : ℕ) → EveryRunRecovers (two_disks rules tag) rules

-- and with hands at work, for whatever instance, it answers with best values: from a new store on, and from one that was
-- adopted from one disk, of whatever version
abbrev pub TwoDisksAnswers : {F L : Type 0} → Analysis F L → Type 0
TwoDisksAnswers a = (tag : ℕ) → PlaceAnswers a (OnTwoDisks tag)

-- a new store has no record; and what one on one disk holds is held beside a closed slot
pub record TwoDisksBegin {Image Step : Type 0} (rules : Rules Image Step VersionedEntry) : Type 0 where
  pub created : (head : Head) → 0 < head.tag
      → IsLiveTwo rules head.tag [] 0 (first_writer head.version 4096) (two_sides First (first_disk head) (first_disk head))
  pub adopted : (head : Head) (records : List Entry) (bytes other : List ℕ) → 0 < head.tag → Holds head records bytes
      → IsClosedSlot other → HoldsTwo rules head.tag (in_version head.version records) (two_sides First bytes other)

-- a good call of the writer, whether or not it stores a record
pub record CanGoOn (records : List VersionedEntry) (stored : ℕ) (work : SlotWriter) (disks : Sides DiskState) : Type 0 where
  pub new : SlotWriter
  pub after : Sides DiskState
  pub call : CallsTwo records stored work disks new after ⊎ StoresTwo records stored work disks new after

-- where records are still to be stored, or a checkpoint is begun, some call can be made
abbrev pub TwoDisksGoOn : {Image Step : Type 0} → Rules Image Step VersionedEntry → Type 0
TwoDisksGoOn rules = (tag : ℕ) (records : List VersionedEntry) (stored : ℕ) (work : SlotWriter) (disks : Sides DiskState)
    → IsLiveTwo rules tag records stored work disks → (stored < length records) ⊎ (work.checkpoint ≢ NotBegun)
    → CanGoOn records stored work disks

-- all that stands in a slot gives back the images of the list that it has; and its commands and those among the records
-- behind the checkpoint are the commands of the list
pub record SlotsGiveBack {Image Step : Type 0} (rules : Rules Image Step VersionedEntry) : Type 0 where
  pub images : (records : List VersionedEntry) (slot : Slot) → IsListOf rules records slot
      → GiveTheSame rules (in_version slot.head.version (map unnumbered (records_of slot))) records
  pub commands : (records : List VersionedEntry) (slot : Slot) → IsListOf rules records slot
      → commands_of records ≡ slot.commands ++ filter is_command (numbered_from slot.base slot.rest)

-- parts in the second version that lead from the image of the commands among the records, of which there are some, to that
-- of all
pub record ArePartsOf {Image Step : Type 0} (rules : Rules Image Step VersionedEntry) (records : List VersionedEntry)
    (parts : List Entry) : Type 0 where
  pub some : 0 < length (commands_of records)
  pub few : length parts ≤ 4294967295
  pub proper : All IsPartEntry parts
  pub before : Image
  pub now : Image
  pub commands : IsFolded rules (in_version Two (map unnumbered (commands_of records))) before
  pub lead : LeadTo rules (in_version Two parts) before now
  pub whole : IsFolded rules records now

-- a checkpoint of such parts over all the records can be planned where none is begun, and a generation is left
abbrev pub CheckpointsCanBePlanned : {Image Step : Type 0} → Rules Image Step VersionedEntry → Type 0
CheckpointsCanBePlanned rules = (tag : ℕ) (records : List VersionedEntry) (parts : List Entry) (stored : ℕ)
    (work : SlotWriter) (disks : Sides DiskState) → IsLiveTwo rules tag records stored work disks → work.checkpoint ≡ NotBegun
    → work.generation ≤ 4294967294 → ArePartsOf rules records parts
    → (new : SlotWriter) × BeginsTwo rules tag records work new
