-- What an opening finds and leaves.
use Rattle.std.specs.Prelude.{◌≡◌, ◌⊎◌, ℕ, ◌<◌, ◌≤◌, List, [], ◌∷◌, ◌++◌, length, slice_index, Result, Ok, Err}
use Rattle.ide_disk.specs.Disk.{DiskState, CrashLeaves, settled}
use Rattle.ide_disk.specs.declared.disk.Disk.{Ghosts}
use Rattle.ide_wire.specs.declared.refused.Refused.{Refused}
use Rattle.ide_journal.specs.Bytes.{IsBefore}
use Rattle.ide_journal.specs.Format.{Entry, Head, head_of, header, IsPages, Holds}
use Rattle.ide_journal.specs.Lists.{entries_of, IsAtRest}
use Rattle.ide_journal.specs.Moments.{LeavesOnly}
use Rattle.ide_journal.specs.Reading.{AreRead, IsStore}
use Rattle.ide_journal.specs.declared.journal.Journal.{Journal}
use Rattle.ide_journal.specs.declared.reading.Loaded.{Loaded}
use Rattle.ide_journal.specs.declared.record.RawRecord.{RawRecord}

-- what the first page of a store that was read told
abbrev pub head_read : ℕ → Loaded → Head
head_read tag loaded = head_of loaded.version tag

-- the bytes are a store with that tag and the version that was read, and these are its records, up to a closed gate
pub record IsLoaded (tag : ℕ) (bytes : List ℕ) (loaded : Loaded) : Type 0 where
  pub store : IsStore (head_read tag loaded) bytes
  pub read : AreRead (entries_of loaded.records.items) loaded.gate bytes
  pub closed : slice_index bytes loaded.gate ≡ 0

-- its closed gate lies within so many bytes, and its records can be counted
pub record FitsIn (size : ℕ) (loaded : Loaded) : Type 0 where
  pub inside : loaded.gate < size
  pub few : length loaded.records.items ≤ 4294967295

-- the disk has these records and the closed gate behind them, and nothing else
pub record IsFound (head : Head) (entries : List Entry) (gate : ℕ) (disk : DiskState) : Type 0 where
  pub pages : List ℕ
  pub whole : IsPages 0 entries pages
  pub place : gate ≡ length (header head ++ pages)
  pub settled_disk : disk ≡ settled (header head ++ pages ++ 0 ∷ [])

-- the store that was read was on the one disk, and is all that the other has
pub record IsRecovered {D : Type 0} (G : Ghosts D) (tag : ℕ) (old new : D) (loaded : Loaded) : Type 0 where
  pub held : Holds (head_read tag loaded) (entries_of loaded.records.items) (G.state old).now
  pub found : IsFound (head_read tag loaded) (entries_of loaded.records.items) loaded.gate (G.state new)

-- these records stood on the disk, in a store with that tag and the version of the journal, which is at rest with them
pub record IsOpened {D : Type 0} {G : Ghosts D} (tag : ℕ) (old : D) (journal : Journal D G) (records : List RawRecord) : Type 0 where
  pub held : Holds (head_of journal.version tag) (entries_of records) (G.state old).now
  pub at_rest : IsAtRest (head_of journal.version tag) (entries_of records) journal

-- wherever the closed gate is at that place, what stands behind it is dropped
abbrev pub CutsBehind : ℕ → DiskState → DiskState → Type 0
CutsBehind gate old new = (base rest : List ℕ) → gate ≡ length base → old ≡ settled (base ++ 0 ∷ rest) → new ≡ settled (base ++ 0 ∷ [])

-- so it is of a disk
abbrev pub CutsDisk : {D : Type 0} → Ghosts D → (gate : ℕ) → (old new : D) → Type 0
CutsDisk G gate old new = CutsBehind gate (G.state old) (G.state new)

-- and a crash at any moment leaves what stands before it, and the closed gate
abbrev pub LeavesFront : {D : Type 0} → Ghosts D → ℕ → D → D → Type 0
LeavesFront G gate old new = (base rest : List ℕ) → gate ≡ length base → G.state old ≡ settled (base ++ 0 ∷ rest)
    → LeavesOnly G old new (IsBefore base)

-- two files hold the same records, under the same version and tag
pub record HoldSame (bytes left : List ℕ) : Type 0 where
  pub head : Head
  pub entries : List Entry
  pub first : Holds head entries bytes
  pub second : Holds head entries left

-- what a crash of the disk may have left, or a file that holds the records that a read gives
abbrev pub LeftOrSame : DiskState → List ℕ → Type 0
LeftOrSame disk left = CrashLeaves disk left ⊎ HoldSame disk.now left

-- a crash at any moment leaves what one before could leave, or the records that a read gave
abbrev pub KeepsRecords : {D : Type 0} → Ghosts D → D → D → Type 0
KeepsRecords G old new = LeavesOnly G old new (LeftOrSame (G.state old))

-- the disk after an opening, in the journal or beside the refusal
abbrev pub disk_after : {D R : Type 0} {G : Ghosts D} → Result (Journal D G × R) (Refused × D) → D
disk_after (Ok pair) = pair.0.disk
disk_after (Err pair) = pair.1
