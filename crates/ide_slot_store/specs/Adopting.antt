-- A store on one disk that goes on as one on two.
use Rattle.std.specs.Prelude.{◌≡◌, ℕ, ◌<◌, List, Result, IfErr, IfOk}
use Rattle.ide_batch.specs.Fold.{ProgramImage}
use Rattle.ide_disk.specs.Disk.{DiskState}
use Rattle.ide_disk.specs.declared.disk.Disk.{Ghosts}
use Rattle.ide_journal.specs.Format.{head_of}
use Rattle.ide_journal.specs.declared.version.Version.{Version}
use Rattle.ide_journal.specs.declared.version.Version.TheVariants.{Two}
use Rattle.ide_slot_journal.specs.Adopting.{IsClosingRefusal}
use Rattle.ide_slot_journal.specs.Stands.{disks_of}
use Rattle.ide_slots.specs.Slot.{IsClosedSlot}
use Rattle.ide_slots.specs.Two.{SlotWriter, first_disk}
use Rattle.ide_wire.specs.declared.refused.Refused.{Refused}
use Rattle.ide_store.specs.Hands.{Happens}
use Rattle.ide_store.specs.Places.{OnOneDisk, OnTwoDisks}
use Rattle.ide_store.specs.Table.{Analysis, IsReached, MayDo, OneWorld, TableData, after_act, beside}
use Rattle.ide_store.specs.Versioned.{VersionedEntry}
use Rattle.ide_store.specs.World.{Opens}
use Rattle.ide_slot_store.specs.Engine.{AreAtWork, IsEngineStop}
use Rattle.ide_slot_store.specs.declared.engine.SlotEngine.{SlotEngine}
use Rattle.ide_slot_store.specs.declared.writer.SlotWriterHalf.{SlotWriterHalf}

module _ {F L : Type 0} (a : Analysis F L) (version : Version) (tag : ℕ) where
  module _ {D : Type 0} {G : Ghosts D} (w : OneWorld a version tag) (table : TableData F) (writer : SlotWriterHalf D G) where
    -- a closed slot was put beside it, the opening happens, and the halves are at work
    pub record IsTakenOver : Type 0 where
      pub some_tag : 0 < tag
      pub stood : SlotWriter
      pub other : List ℕ
      pub closed : IsClosedSlot other
      pub found : List VersionedEntry
      pub image : ProgramImage F
      pub work : SlotWriter
      pub can : MayDo a (OnTwoDisks tag) (beside a version tag w stood other) (Happens (Opens found image work (disks_of writer.journal)))
      pub at_work :
          AreAtWork a tag
          (after_act a (OnTwoDisks tag) (beside a version tag w stood other) (Happens (Opens found image work (disks_of writer.journal))))
          table writer

  -- over each world that acts led to on one disk, and that stood on it
  abbrev pub AreAdopted : {D : Type 0} {G : Ghosts D} → DiskState → TableData F → SlotWriterHalf D G → Type 0
  AreAdopted before table writer =
      (w : OneWorld a version tag) → IsReached a (OnOneDisk (head_of version tag)) w → w.world.disks ≡ before → IsTakenOver w table writer

-- why it is not adopted: no closed slot is put on B, and A stays as it is; or one was, and the store is not opened
pub data IsAdoptingStop {F L : Type 0} (a : Analysis F L) {D : Type 0} (G : Ghosts D) (tag : ℕ) (first second after_first after_second : D)
    : Refused → Type 0 where
  not_closed : {refused : Refused} → after_first ≡ first → IsClosingRefusal G second after_second refused
      → IsAdoptingStop a G tag first second after_first after_second refused
  not_opened : {refused : Refused} (closed : D) → G.state closed ≡ first_disk (head_of Two tag)
      → IsEngineStop a G tag first closed after_first after_second refused
      → IsAdoptingStop a G tag first second after_first after_second refused

module _ {F L : Type 0} (a : Analysis F L) {P D : Type 0} {G : Ghosts D} where
  -- over honest disks, a store that was adopted goes on with each run that stood on A
  abbrev pub AdoptsEngine : {E : Type 0} → ℕ → (first second : D) → Result (SlotEngine P D L F G) E → Type 0
  AdoptsEngine tag first second result = G.honest first → G.honest second
      → IfOk result (λ engine.
      AreAdopted a engine.writer.journal.version tag (G.state first) engine.table engine.writer)

  -- and each refusal has such a cause
  abbrev pub RefusesAdopting : ℕ → (first second : D) → Result (SlotEngine P D L F G) (Refused × D × D) → Type 0
  RefusesAdopting tag first second result = G.honest first → G.honest second
      → IfErr result (λ all. IsAdoptingStop a G tag first second all.1 all.2 all.0)
