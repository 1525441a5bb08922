-- That the two halves of a store on two disks that was opened are at work on it.
use Rattle.std.specs.Prelude.{◌≡◌, ℕ, List}
use Rattle.ide_disk.specs.declared.disk.Disk.{Ghosts}
use Rattle.ide_slot_journal.specs.Opened.{states_of}
use Rattle.ide_slot_journal.specs.Stands.{records_stored}
use Rattle.ide_slots.specs.declared.record.NumberedRecord.{NumberedRecord}
use Rattle.ide_store.specs.Opening.{GoesOnFrom}
use Rattle.ide_store.specs.Table.{Analysis, TableData}
use Rattle.ide_slot_store.specs.Batches.{batches_of}
use Rattle.ide_slot_store.specs.Engine.{AreOpened, HasFoldOf}
use Rattle.ide_slot_store.specs.Half.{OpensStore}
use Rattle.ide_slot_store.specs.declared.writer.SlotWriterHalf.{SlotWriterHalf}

-- over the records that an opening found, and a half that goes on from them and counts as many as are stored, the two are
-- at work
abbrev pub SlotHalvesOpen : {F L : Type 0} → Analysis F L → {D : Type 0} → Ghosts D → Type 0
SlotHalvesOpen {F} a {D} G = (tag : ℕ) (first second : D) (writer : SlotWriterHalf D G) (found : List NumberedRecord) (table : TableData F)
    → OpensStore tag first second writer found → HasFoldOf a writer found → GoesOnFrom a (batches_of found) table
    → table.version ≡ writer.journal.version → table.sealed ≡ records_stored writer.journal
    → AreOpened a tag (states_of G first second) table writer
