-- A run of an engine on two disks: whichever calls of its halves are made, they are at work on a world that acts led to.
use Rattle.std.specs.Prelude.{◌≡◌, ℕ, Bool, false, List, Result}
use Rattle.ide_disk.specs.Disk.{DiskState}
use Rattle.ide_disk.specs.declared.disk.Disk.{Ghosts}
use Rattle.ide_journal.specs.Format.{head_of}
use Rattle.ide_journal.specs.declared.version.Version.{Version}
use Rattle.ide_slot_journal.specs.Opened.{settled_both}
use Rattle.ide_slot_journal.specs.Stands.{disks_of}
use Rattle.ide_slots.specs.Sides.{Sides}
use Rattle.ide_steps.specs.declared.closed.Closed.{Closed}
use Rattle.ide_wire.specs.declared.refused.Refused.{Refused}
use Rattle.ide_store.specs.Draining.{WorksBy}
use Rattle.ide_store.specs.Freezing.{IsImageOver}
use Rattle.ide_store.specs.Places.{OnOneDisk, OnTwoDisks, Place}
use Rattle.ide_store.specs.Runs.{IsImageOfRun, IsLeftByRun, IsOfTable}
use Rattle.ide_store.specs.Table.{Analysis, IsAct, IsReached, IsSameTable, StoreAct, TableData}
use Rattle.ide_store.specs.TableCalls.{FindsNothing}
use Rattle.ide_slot_store.specs.Adopting.{AreAdopted}
use Rattle.ide_slot_store.specs.Asking.{AsksOver}
use Rattle.ide_slot_store.specs.Engine.{AreAtWork, AreNewHalves, AreOpened, MayCrash, SlotWorld, StepsDisksOver}
use Rattle.ide_slot_store.specs.declared.writer.SlotWriterHalf.{SlotWriterHalf}

module _ {F L : Type 0} (a : Analysis F L) (tag : ℕ) {D : Type 0} {G : Ghosts D} where
  -- the halves are at work on a world of that tag that acts led to
  pub record AreOnRun (table : TableData F) (writer : SlotWriterHalf D G) : Type 0 where
    pub world : SlotWorld a tag
    pub reached : IsReached a (OnTwoDisks tag) world
    pub at_work : AreAtWork a tag world table writer

  -- and where they are not, a call of a disk failed
  abbrev pub AreOnRunUnlessFailed : TableData F → SlotWriterHalf D G → Type 0
  AreOnRunUnlessFailed table writer = table.failed ≡ false → AreOnRun table writer

-- whichever calls of its halves are made, an engine stays on a run of its tag, until a call of a disk fails
pub record SlotEnginesStayOnRuns (P : Type 0) {F L : Type 0} (a : Analysis F L) {D : Type 0} (G : Ghosts D) : Type 0 where
  -- a new store begins one, and an opening goes on from disks that one left: as they stand at any time, or as a crash leaves them
  pub made : (tag : ℕ) (table : TableData F) (writer : SlotWriterHalf D G) → AreNewHalves a tag table writer → AreOnRun a tag table writer
  pub opened : (tag : ℕ) (before : Sides DiskState) (table : TableData F) (writer : SlotWriterHalf D G)
      → IsLeftByRun a (OnTwoDisks tag) before → AreOpened a tag before table writer → AreOnRun a tag table writer
  pub leaves : (tag : ℕ) (table : TableData F) (writer : SlotWriterHalf D G) → AreOnRun a tag table writer
      → IsLeftByRun a (OnTwoDisks tag) (disks_of writer.journal)
  pub crashes : (tag : ℕ) (w : SlotWorld a tag) → IsReached a (OnTwoDisks tag) w → (left : Sides (List ℕ)) → MayCrash a tag w left
      → IsLeftByRun a (OnTwoDisks tag) (settled_both left)
  -- and so does one that is adopted, from a disk that a run on it alone left
  pub adopted : (version : Version) (tag : ℕ) (before : DiskState) (table : TableData F) (writer : SlotWriterHalf D G)
      → IsLeftByRun a (OnOneDisk (head_of version tag)) before → AreAdopted a version tag before table writer → AreOnRun a tag table writer
  -- calls of the half that works: an act, all that one hand did, nothing to seal, or a refusal
  pub act : (tag : ℕ) (old new : TableData F) (writer : SlotWriterHalf D G) (act : (place : Place) → StoreAct a place)
      → ((place : Place) → IsOfTable a place (act place)) → IsAct a old new act → AreOnRun a tag old writer → AreOnRun a tag new writer
  pub works : (tag : ℕ) (old new : TableData F) (writer : SlotWriterHalf D G) (claims releases : ℕ) → WorksBy a old new claims releases
      → AreOnRun a tag old writer → AreOnRun a tag new writer
  pub nothing : (tag : ℕ) (old new : TableData F) (writer : SlotWriterHalf D G) → FindsNothing a old new → AreOnRun a tag old writer → AreOnRun a tag new writer
  pub same : (tag : ℕ) (old new : TableData F) (writer : SlotWriterHalf D G) → IsSameTable old new → AreOnRun a tag old writer → AreOnRun a tag new writer
  -- a call of a disk
  pub step : (tag : ℕ) (old new : TableData F) (writer after : SlotWriterHalf D G) (result : Result Bool Refused)
      → StepsDisksOver a tag old new writer after result → AreOnRun a tag old writer → AreOnRunUnlessFailed a tag new after
  -- a call that asks for a checkpoint
  pub asked : (tag : ℕ) (old new : TableData F) (writer after : SlotWriterHalf D G) (result : Result Bool Refused)
      → AsksOver a tag old new writer after result → AreOnRun a tag old writer → AreOnRun a tag new after
  -- what is frozen is of the run: so it answers with best values, as that of any run does
  pub frozen : (tag : ℕ) (table : TableData F) (writer : SlotWriterHalf D G) (closed : Closed P L F) → IsImageOver a table closed
      → AreOnRun a tag table writer → IsImageOfRun a closed
