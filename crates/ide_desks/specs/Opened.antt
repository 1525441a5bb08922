-- The desks of a new board over an engine.
use Rattle.std.specs.Prelude.{◌≡◌, ◌≤◌, ℕ, false, List, [], replicate}
use Rattle.atomic_table.specs.Seated.{TableId}
use Rattle.ide_board.specs.Records.{TableView, WriterView}
use Rattle.ide_disk.specs.declared.disk.Disk.{Ghosts}
use Rattle.ide_journal.specs.declared.version.Version.{Version}
use Rattle.ide_slot_journal.specs.Stands.{AreHonest, records_stored}
use Rattle.ide_slot_store.specs.Runs.{AreOnRun}
use Rattle.ide_slot_store.specs.declared.engine.SlotEngine.{SlotEngine}
use Rattle.ide_store.specs.Table.{Analysis}
use Rattle.ide_store.specs.Versioned.{VersionedEntry}
use Rattle.ide_desks.specs.Keeping.{unknown}
use Rattle.ide_desks.specs.declared.switch.TableSwitch.{TableSwitch}
use Rattle.ide_desks.specs.declared.switch.WriterSwitch.{WriterSwitch}

-- the board knows of as many records as the engine sealed, and of none what it is; all were handed over, and as many of them are
-- stored as are on the disks
pub record AreNewSeats {P D L F : Type 0} {G : Ghosts D} (board : TableId) (engine : SlotEngine P D L F G)
    (table : TableView VersionedEntry) (writer : WriterView VersionedEntry) : Type 0 where
  pub table_at : table.board ≡ board
  pub writer_at : writer.board ≡ board
  pub sealed : table.sealed ≡ replicate engine.table.sealed unknown
  pub handed : table.handed ≡ engine.table.sealed
  pub none : engine.table.waiting ≡ []
  pub few : records_stored engine.writer.journal ≤ engine.table.sealed
  pub taken : writer.taken ≡ table.sealed
  pub stored : writer.stored ≡ replicate (records_stored engine.writer.journal) unknown

-- nothing is noted yet of a checkpoint, on a board that both desks share
pub record IsNewSwitch (switch : TableSwitch) (writer : WriterSwitch) : Type 0 where
  pub board : writer.seat.board ≡ switch.board
  pub sealed : switch.seat.sealed ≡ []
  pub taken : writer.seat.taken ≡ []

-- both desks know the same of it
abbrev pub AreAgreed : TableSwitch → WriterSwitch → Type 0
AreAgreed switch writer = writer.seat.taken ≡ switch.seat.sealed

-- the engine is on a run, on honest disks, it seals records in that version, and these are the records that its writer was handed
pub record IsToldOf {P D L F : Type 0} {G : Ghosts D} (a : Analysis F L) (tag : ℕ) (engine : SlotEngine P D L F G)
    (version : Version) (first : List VersionedEntry) : Type 0 where
  pub run : AreOnRun a tag engine.table engine.writer
  pub version_is : engine.table.version ≡ version
  pub honest : AreHonest engine.writer.journal
  pub is : first ≡ run.at_work.handed

-- so much may be told of an engine, where it is so: `told` of an accord may be this very statement
pub record MayBeTold {P D L F : Type 0} {G : Ghosts D} (a : Analysis F L) (tag : ℕ) (engine : SlotEngine P D L F G) : Type 0 where
  pub run : AreOnRun a tag engine.table engine.writer
  pub honest : AreHonest engine.writer.journal

-- and these are its records then, and the version in which it seals
abbrev pub records_told : {P D L F : Type 0} {G : Ghosts D} {a : Analysis F L} {tag : ℕ} {engine : SlotEngine P D L F G} → MayBeTold a tag engine
    → List VersionedEntry
records_told told = told.run.at_work.handed

abbrev pub version_told : {P D L F : Type 0} {G : Ghosts D} {a : Analysis F L} {tag : ℕ} {engine : SlotEngine P D L F G} → MayBeTold a tag engine
    → Version
version_told {engine = engine} told = engine.table.version

-- an engine that is on a run is on it still
abbrev pub StaysOnRun : {P D L F : Type 0} {G : Ghosts D} → Analysis F L → ℕ → (old new : SlotEngine P D L F G) → Type 0
StaysOnRun a tag old new = AreOnRun a tag old.table old.writer → AreOnRun a tag new.table new.writer

-- an engine whose halves come back from their desks is on a run, where no call of a disk failed and nothing waits with the half that
-- works
abbrev pub IsRejoined : {P D L F : Type 0} {G : Ghosts D} → Analysis F L → ℕ → SlotEngine P D L F G → Type 0
IsRejoined a tag engine = engine.table.failed ≡ false → engine.table.waiting ≡ [] → ∥ AreOnRun a tag engine.table engine.writer ∥₁
