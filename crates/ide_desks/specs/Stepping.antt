-- Why no call of a disk is made, or not well.
use Rattle.std.specs.Prelude.{◌≡◌, ◌⊎◌, ◌↔◌, Bool, true, Result, Err}
use Rattle.ide_disk.specs.declared.disk.Disk.{Ghosts}
use Rattle.ide_slot_store.specs.declared.writer.SlotWriterHalf.{SlotWriterHalf}
use Rattle.ide_wire.specs.declared.refused.Refused.{Refused}
use Rattle.ide_wire.specs.declared.refused.Refused.TheVariants.{Disk, Failed, NoMemory}

-- one failed before; memory is wanting for the next record; or the call failed
pub data IsStepRefusal : Refused → Type 0 where
  failed_before : IsStepRefusal Failed
  wants_memory : IsStepRefusal NoMemory
  fails : IsStepRefusal Disk

-- a call that failed is noted, and stays so
abbrev pub NotesFault : {T : Type 0} → Result T Refused → (failed failed_after : Bool) → Type 0
NotesFault result failed failed_after = (failed_after ≡ true) ↔ ((failed ≡ true) ⊎ (result ≡ Err Disk))

-- where one failed before, nothing is done
abbrev pub RefusesOnceFailed : {T D : Type 0} {G : Ghosts D} → Result T Refused → (failed : Bool) (old new : SlotWriterHalf D G) → Type 0
RefusesOnceFailed result failed old new = failed ≡ true → (result ≡ Err Failed) × (new ≡ old)
