-- What each half of a store on two disks keeps while the other goes on by itself.
use Rattle.std.specs.Prelude.{◌≡◌, ◌<◌, ◌++◌, ℕ, Bool, true, false, List, [], Some, None, drop, length, map, slice_get, take}
use Rattle.std.specs.List.{AllByRecursion}
use Rattle.ide_board.specs.Records.{ClientView, Marked, TableView, WriterView}
use Rattle.ide_disk.specs.declared.disk.Disk.{Ghosts}
use Rattle.ide_journal.specs.declared.version.Version.{Version}
use Rattle.ide_journal.specs.declared.version.Version.TheVariants.{Two}
use Rattle.ide_slot_journal.specs.Moments.{LeavesOnlyTwo}
use Rattle.ide_slot_journal.specs.Stands.{disks_of, sides_of, slot_writer}
use Rattle.ide_slots.specs.Sides.{Sides}
use Rattle.ide_slots.specs.Slot.{Slot}
use Rattle.ide_slots.specs.Two.{LeavesTwo}
use Rattle.ide_slot_store.specs.Engine.{SlotWorld}
use Rattle.ide_slot_store.specs.Half.{Writes}
use Rattle.ide_slot_store.specs.declared.writer.SlotWriterHalf.{SlotWriterHalf}
use Rattle.ide_store.specs.Places.{OnTwoDisks}
use Rattle.ide_store.specs.Store.{IsFoundOf, IsSafe}
use Rattle.ide_store.specs.Table.{Analysis, IsReached, TableData, WorksOn}
use Rattle.ide_store.specs.TwoDisks.{HoldsTwo, IsLiveTwo, sealing_version, two_disks}
use Rattle.ide_store.specs.TwoDisksLaws.{slots_of}
use Rattle.ide_store.specs.Versioned.{VersionedEntry}

-- a board begins with so many records that it does not know: these are in their place, and the others as they were sealed
abbrev pub records_in : (first : List VersionedEntry) → List (Marked VersionedEntry) → List VersionedEntry
records_in first sealed = first ++ drop (length first) (map (λ m. m.0) sealed)

-- those that the table's seat handed over, and those that it did not yet
abbrev pub handed_of : (first : List VersionedEntry) → TableView VersionedEntry → List VersionedEntry
handed_of first seat = take seat.handed (records_in first seat.sealed)

abbrev pub records_waiting : (first : List VersionedEntry) → TableView VersionedEntry → List VersionedEntry
records_waiting first seat = drop seat.handed (records_in first seat.sealed)

-- what stands in the place of a record that the board does not know
abbrev pub unknown : Marked VersionedEntry
unknown = ((Two, (0, [])), None)

-- each of these pairs below a number, a number and a record, is found at its number
abbrev pub HaveOwn : ℕ → List (ℕ × VersionedEntry) → List VersionedEntry → Type 0
HaveOwn bound own found = AllByRecursion (λ pair. pair.0 < bound → slice_get found pair.0 ≡ Some pair.1) own

module _ {F L : Type 0} (a : Analysis F L) (tag : ℕ) (version : Version) where
  -- the half works on a world that acts led to, and seals in that version; and of the records that were sealed there these were
  -- handed over
  pub record WorksOnRun (table : TableData F) (handed : List VersionedEntry) : Type 0 where
    pub version_is : table.version ≡ version
    pub world : SlotWorld a tag
    pub reached : IsReached a (OnTwoDisks tag) world
    pub works : WorksOn a (OnTwoDisks tag) world table handed

  module _ {D : Type 0} {G : Ghosts D} where
    -- the half writes these records, of which so many are stored, and those that it takes over have to be of that version; and it
    -- is live with them on its disks
    pub record WritesLive (taken : List VersionedEntry) (stored : ℕ) (half : SlotWriterHalf D G) : Type 0 where
      pub slot : Slot
      pub other : Slot
      pub writes : Writes slot other taken stored half
      pub version_is : sealing_version (slot_writer other half.journal) ≡ version
      pub tag_is : slot.head.tag ≡ tag
      pub live : IsLiveTwo (slots_of a) tag taken stored (slot_writer other half.journal) (disks_of half.journal)

module _ {F L : Type 0} (a : Analysis F L) (tag : ℕ) where
  -- whatever a crash leaves of its disks holds the stored ones of these records, and perhaps some behind them
  abbrev pub KeepsStored : {D : Type 0} {G : Ghosts D} → List VersionedEntry → ℕ → SlotWriterHalf D G → Type 0
  KeepsStored taken stored half = IsSafe (two_disks (slots_of a) tag) taken stored (disks_of half.journal)

  -- the half writes while no call of a disk failed, and keeps what is stored from then on
  abbrev pub WritesUnlessFailed : {D : Type 0} {G : Ghosts D} → Version → (failed : Bool) → List VersionedEntry → ℕ → SlotWriterHalf D G → Type 0
  WritesUnlessFailed version false taken stored half = WritesLive a tag version taken stored half
  WritesUnlessFailed version true taken stored half = KeepsStored taken stored half

  -- what is left holds the stored ones of the records, and perhaps some behind them
  pub record HoldsStored (taken : List VersionedEntry) (stored : ℕ) (left : Sides (List ℕ)) : Type 0 where
    pub found : List VersionedEntry
    pub holds : HoldsTwo (slots_of a) tag found left
    pub is : IsFoundOf taken stored found

  -- and it does whatever a crash at some moment of a call leaves
  abbrev pub LeavesStored : {D : Type 0} {G : Ghosts D} → List VersionedEntry → ℕ → (old new : SlotWriterHalf D G) → Type 0
  LeavesStored {G = G} taken stored old new =
      LeavesOnlyTwo G (sides_of old.journal) (sides_of new.journal) (λ left. ∥ HoldsStored taken stored left ∥₁)

  -- of a desk: the stored ones of the records that it took over, where these are those that its board began with
  abbrev pub LeavesTaken : {D : Type 0} {G : Ghosts D} → (first : List VersionedEntry) → WriterView VersionedEntry → (old new : SlotWriterHalf D G) → Type 0
  LeavesTaken first seat old new = LeavesStored (records_in first seat.taken) (length seat.stored) old new

  -- whatever a crash leaves of the disks holds each of the client's own records below the number that it has seen, at its number
  abbrev pub KeepsOwn : {D : Type 0} {G : Ghosts D} → ClientView VersionedEntry → SlotWriterHalf D G → Type 0
  KeepsOwn client half = (left : Sides (List ℕ)) → LeavesTwo (disks_of half.journal) left
      → ∥ ((found : List VersionedEntry) × HoldsTwo (slots_of a) tag found left × HaveOwn client.seen client.own found) ∥₁
