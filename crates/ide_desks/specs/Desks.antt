-- What lies under the two locks of a service: under each a half of the store, and a seat of one board.
use Rattle.std.specs.Prelude.{◌≡◌, ℕ, ◌+◌, ◌++◌, ◌≤◌, Bool, false, List, [], ◌∷◌, Option, None, Some, Result, IfOk, IfSome, OnOk, length, replicate, take}
use Rattle.ide_board.specs.Records.{AreStoredBelow, ClientView, TableView, WriterView, with_own, with_sealed, with_stored}
use Rattle.ide_desks.specs.declared.writer.Stepped.{Stepped}
use Rattle.ide_desks.specs.declared.writer.Stepped.TheVariants.{Called, Rested, Stored}
use Rattle.ide_desks.specs.Keeping.{WritesUnlessFailed, WorksOnRun, handed_of, records_in, unknown, records_waiting}
use Rattle.ide_disk.specs.declared.disk.Disk.{Ghosts}
use Rattle.ide_journal.specs.Format.{Entry}
use Rattle.ide_journal.specs.declared.version.Version.{Version}
use Rattle.ide_slot_journal.specs.Stands.{AreHonest, IsCheckpointing}
use Rattle.ide_slot_store.specs.declared.writer.SlotWriterHalf.{SlotWriterHalf}
use Rattle.ide_store.specs.Table.{Analysis, TableData}
use Rattle.ide_store.specs.Versioned.{VersionedEntry, in_version}

-- the last of some records, and the last but one; of none, an empty one
abbrev pub last_entry : List Entry → Entry
last_entry [] = (0, [])
last_entry (entry ∷ []) = entry
last_entry (entry ∷ next ∷ rest) = last_entry (next ∷ rest)

abbrev pub last_but_one : List Entry → Entry
last_but_one [] = (0, [])
last_but_one (entry ∷ []) = (0, [])
last_but_one (entry ∷ last ∷ []) = entry
last_but_one (entry ∷ next ∷ last ∷ rest) = last_but_one (next ∷ last ∷ rest)

-- the record that was sealed last, of those that wait, and the last but one
abbrev pub last_sealed : {F : Type 0} → TableData F → VersionedEntry
last_sealed table = (table.version, last_entry table.waiting)

abbrev pub last_but_sealed : {F : Type 0} → TableData F → VersionedEntry
last_but_sealed table = (table.version, last_but_one table.waiting)

-- the seat after one more record was sealed, the last that waits, with that mark
abbrev pub with_last : {F : Type 0} → TableView VersionedEntry → TableData F → Option ℕ → TableView VersionedEntry
with_last seat table by = with_sealed seat (last_sealed table, by)

-- after what changed was, the last but one
abbrev pub with_changes : {F : Type 0} → TableView VersionedEntry → TableData F → TableView VersionedEntry
with_changes seat table = with_sealed seat (last_but_sealed table, None)

-- and then one more
abbrev pub with_last_two : {F : Type 0} → TableView VersionedEntry → TableData F → Option ℕ → TableView VersionedEntry
with_last_two seat table by = with_last (with_changes seat table) table by

-- a root is sealed for the client, and before it what changed, if anything did, for none
pub data IsMarked {F : Type 0} (seat after : TableView VersionedEntry) (table : TableData F) (client : ℕ) : Type 0 where
  alone : after ≡ with_last seat table (Some client) → IsMarked seat after table client
  behind_changes : after ≡ with_last_two seat table (Some client) → IsMarked seat after table client

-- so a root leaves the seat; and a load, for the client alone; and what changed, if anything did, for none
abbrev pub MarksRoot : {F T E : Type 0} → Result T E → ClientView VersionedEntry → (seat after : TableView VersionedEntry) → TableData F → Type 0
MarksRoot result client seat after table = OnOk result (IsMarked seat after table client.number)

abbrev pub MarksLoad : {F T E : Type 0} → Result T E → ClientView VersionedEntry → (seat after : TableView VersionedEntry) → TableData F → Type 0
MarksLoad result client seat after table = OnOk result (after ≡ with_last seat table (Some client.number))

abbrev pub MarksNone : {F T E : Type 0} → Result (Option T) E → (seat after : TableView VersionedEntry) → TableData F → Type 0
MarksNone result seat after table = IfOk result (λ sealed. IfSome sealed (λ _. after ≡ with_last seat table None))

-- the table's seat after so many more records were sealed, of which it does not know what they are
abbrev pub with_unknown : TableView VersionedEntry → (count : ℕ) → TableView VersionedEntry
with_unknown seat count = record seat { sealed = seat.sealed ++ replicate count unknown }

-- the seat of the table knows all that the half sealed
pub record CountsSealed {F : Type 0} (table : TableData F) (seat : TableView VersionedEntry) : Type 0 where
  pub count : table.sealed ≡ length seat.sealed
  pub handed : seat.handed ≤ length seat.sealed

-- the writer's desk counts what was taken over, and the stored records are the first of them
pub record CountsTaken (seat : WriterView VersionedEntry) (taken : ℕ) : Type 0 where
  pub count : taken ≡ length seat.taken
  pub within : length seat.stored ≤ length seat.taken
  pub beginning : seat.stored ≡ take (length seat.stored) seat.taken

-- what the two desks of a service keep besides, where records are sealed in that version, and these are those that their board began
-- with
module _ {F L : Type 0} (a : Analysis F L) (tag : ℕ) (version : Version) (first : List VersionedEntry) where
  -- of the records that were not handed over the half has each; and until it is told of a failure it works on a run
  pub record IsTableDesk (table : TableData F) (seat : TableView VersionedEntry) : Type 0 where
    pub begun : length first ≤ seat.handed
    pub waits : in_version version table.waiting ≡ records_waiting first seat
    pub run : table.failed ≡ false → WorksOnRun a tag version table (handed_of first seat)

  -- the disks keep the stored ones of the records that were taken over
  pub record IsWriterDesk {D : Type 0} {G : Ghosts D} (half : SlotWriterHalf D G) (seat : WriterView VersionedEntry) (failed : Bool) : Type 0 where
    pub begun : length first ≤ length seat.taken
    pub unknown_first : take (length first) seat.taken ≡ replicate (length first) unknown
    pub honest : AreHonest half.journal
    pub keeps : WritesUnlessFailed a tag version failed (records_in first seat.taken) (length seat.stored) half

-- the writer's seat after a step: one more record is stored, or none
abbrev pub seat_after : Stepped → WriterView VersionedEntry → WriterView VersionedEntry
seat_after Rested seat = seat
seat_after Called seat = seat
seat_after Stored seat = with_stored seat (length seat.stored + 1)

-- what such a step publishes
abbrev pub PublishesStep : (old new : WriterView VersionedEntry) → Stepped → Type 0
PublishesStep old new stepped = new ≡ seat_after stepped old

-- all that was taken over is stored
abbrev pub IsAllStored : WriterView VersionedEntry → Type 0
IsAllStored seat = length seat.stored ≡ length seat.taken

-- then more may be, where no call of a disk failed
abbrev pub MayTakeOver : (failed : Bool) → WriterView VersionedEntry → Type 0
MayTakeOver failed seat = (failed ≡ false) × IsAllStored seat

-- and no checkpoint is under way: there is no call to make
abbrev pub HasNoCallLeft : {D : Type 0} {G : Ghosts D} → WriterView VersionedEntry → SlotWriterHalf D G → Type 0
HasNoCallLeft seat half = (seat.stored ≡ seat.taken) × (IsCheckpointing half.journal → ⊥)

-- each of the client's own records below the number that it has seen is stored
abbrev pub HasOwnStored : WriterView VersionedEntry → ClientView VersionedEntry → Type 0
HasOwnStored seat client = AreStoredBelow client.seen seat.stored client.number client.own

-- all that is sealed is handed over: the writer's seat has taken it
pub record HandsOver (old new : TableView VersionedEntry) (before after : WriterView VersionedEntry) : Type 0 where
  pub table : new ≡ record old { handed = length old.sealed }
  pub writer : after ≡ record before { taken = old.sealed }
