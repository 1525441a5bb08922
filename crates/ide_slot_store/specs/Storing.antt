-- Disk calls of a store on two disks, one after the other, until all that was sealed is stored.
use Rattle.std.specs.Prelude.{◌≡◌, ℕ, List, length}
use Rattle.ide_disk.specs.declared.disk.Disk.{Ghosts}
use Rattle.ide_slot_journal.specs.Stands.{AreHonest}
use Rattle.ide_store.specs.Places.{OnTwoDisks}
use Rattle.ide_store.specs.Table.{Analysis, IsReached, TableData}
use Rattle.ide_store.specs.Versioned.{VersionedEntry}
use Rattle.ide_store.specs.World.{Sealed}
use Rattle.ide_slot_store.specs.Engine.{AreAtWork, SlotWorld}
use Rattle.ide_slot_store.specs.declared.engine.SlotEngine.{SlotEngine}
use Rattle.ide_slot_store.specs.declared.writer.SlotWriterHalf.{SlotWriterHalf}

module _ {F L : Type 0} (a : Analysis F L) {D : Type 0} {G : Ghosts D} where
  -- the halves are at work on a world that acts led to, in which these records are sealed
  pub record AreWorking (tag : ℕ) (sealed : List (Sealed VersionedEntry)) (table : TableData F) (writer : SlotWriterHalf D G) : Type 0 where
    pub world : SlotWorld a tag
    pub reached : IsReached a (OnTwoDisks tag) world
    pub at_work : AreAtWork a tag world table writer
    pub honest : AreHonest writer.journal
    pub same : world.world.sealed ≡ sealed

  -- over honest disks and each world that acts led to, and on which the halves were at work: they still are, and nothing was
  -- sealed
  abbrev pub WorkOn : (table new_table : TableData F) (old new : SlotWriterHalf D G) → Type 0
  WorkOn table new_table old new = AreHonest old.journal → (tag : ℕ) (w : SlotWorld a tag) → IsReached a (OnTwoDisks tag) w
      → AreAtWork a tag w table old → AreWorking tag w.world.sealed new_table new

  -- and all that was sealed is stored
  abbrev pub StoreAll : (table new_table : TableData F) (old new : SlotWriterHalf D G) → Type 0
  StoreAll table new_table old new = AreHonest old.journal → (tag : ℕ) (w : SlotWorld a tag) → IsReached a (OnTwoDisks tag) w
      → AreAtWork a tag w table old
      → (then : AreWorking tag w.world.sealed new_table new) × (then.world.world.stored ≡ length w.world.sealed)

-- of an engine
abbrev pub StoresEngine : {F L : Type 0} → Analysis F L → {P D : Type 0} {G : Ghosts D} → (old new : SlotEngine P D L F G) → Type 0
StoresEngine a old new = StoreAll a old.table new.table old.writer new.writer
