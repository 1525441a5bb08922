-- A checkpoint of all that is sealed in a store on two disks is one that the store may begin.
use Rattle.std.specs.Prelude.{◌≡◌, ℕ, List, [], ◌∷◌, Some}
use Rattle.ide_disk.specs.declared.disk.Disk.{Ghosts}
use Rattle.ide_journal.specs.Format.{Entry}
use Rattle.ide_journal.specs.declared.version.Version.TheVariants.{Two}
use Rattle.ide_slot_journal.specs.Stands.{sides_of}
use Rattle.ide_slots.specs.Two.{SlotWriter}
use Rattle.ide_store.specs.Table.{Analysis, TableData}
use Rattle.ide_store.specs.World.{Begins}
use Rattle.ide_slot_store.specs.Engine.{AreAtWork, MayHappen, SlotWorld, after_events}
use Rattle.ide_slot_store.specs.Half.{PlansAllOver}
use Rattle.ide_slot_store.specs.Parts.{AreImageParts}
use Rattle.ide_slot_store.specs.Runs.{AreOnRun}
use Rattle.ide_slot_store.specs.declared.writer.SlotWriterHalf.{SlotWriterHalf}

module _ {F L : Type 0} (a : Analysis F L) {D : Type 0} {G : Ghosts D} where
  -- all that is sealed is handed over to the writer, and nothing has changed since; the writer plans a checkpoint of all its
  -- records, with the image in parts, and calls no disk
  pub record PlansImage (table : TableData F) (old new : SlotWriterHalf D G) : Type 0 where
    pub handed : table.waiting ≡ []
    pub still : table.core.changes ≡ Some []
    pub parts : List Entry
    pub image : AreImageParts a table parts
    pub plans : PlansAllOver parts old new
    pub sides : sides_of new.journal ≡ sides_of old.journal

-- from then on the half that works spells records in the second version
abbrev pub spelling_anew : {F : Type 0} → TableData F → TableData F
spelling_anew table = record table { version = Two }

-- and nothing else of it changes
abbrev pub ChangesVersion : {F : Type 0} → (old new : TableData F) → Type 0
ChangesVersion old new = new ≡ record old { version = new.version }

module _ {F L : Type 0} (a : Analysis F L) {D : Type 0} (G : Ghosts D) where
  -- then a checkpoint begins, in each world on which the halves are at work, and they are at work on the world after that
  abbrev pub CheckpointsBegin : Type 0
  CheckpointsBegin = (tag : ℕ) (w : SlotWorld a tag) (table : TableData F) (old new : SlotWriterHalf D G)
      → AreAtWork a tag w table old → PlansImage a table old new
      → (work : SlotWriter) × (let events = Begins work ∷ [] in
      MayHappen a tag w events × AreAtWork a tag (after_events a tag w events) (spelling_anew table) new)

  -- so an engine that is on a run stays on it
  abbrev pub CheckpointsStayOnRuns : Type 0
  CheckpointsStayOnRuns = (tag : ℕ) (table : TableData F) (old new : SlotWriterHalf D G) → AreOnRun a tag table old
      → PlansImage a table old new → AreOnRun a tag (spelling_anew table) new
