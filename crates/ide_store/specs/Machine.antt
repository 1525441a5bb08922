-- The machine of an analysis: images of programs, their steps, and what the records of a journal do.
use Rattle.std.specs.Prelude.{◌≡◌, ◌⊎◌, List, ℕ, Bool, None}
use Rattle.ide_batch.specs.Bodies.{AreSpelled, IsEntryOf}
use Rattle.ide_batch.specs.Fold.{RecordLeads, ProgramImage, procedures}
use Rattle.ide_batch.specs.Items.{Functions, Item}
use Rattle.ide_batch.specs.Records.{Batch, RecordValue}
use Rattle.ide_lattice.specs.Algebra.{EdgeAlgebra}
use Rattle.ide_text.specs.Value.{ProgramValue}
use Rattle.ide_theory.specs.Images.{ImageStep, loaded, step}
use Rattle.ide_store.specs.Versioned.{VersionedEntry}
use Rattle.ide_store.specs.World.{Rules}

-- a step of a program's image
abbrev pub ProgramStep : Type 0 → Type 0
ProgramStep F = ImageStep ProgramValue (List ℕ) F

-- a journal's record is this one, in its version
abbrev pub IsRecordOf : {F : Type 0} → Functions F → RecordValue F → VersionedEntry → Type 0
IsRecordOf forms value r = IsEntryOf forms r.0 value r.1

-- it does what the record does that it spells
pub record Does {F L : Type 0} (functions : EdgeAlgebra F L) (same : F → F → Bool) (forms : Functions F)
    (r : VersionedEntry) (before now : ProgramImage F) : Type 0 where
  pub value : RecordValue F
  pub spelled : IsRecordOf forms value r
  pub leads : RecordLeads functions same value before now

-- over a store on one disk, from the empty image on
abbrev pub machine : {F L : Type 0} → EdgeAlgebra F L → (F → F → Bool) → Functions F → Rules (ProgramImage F) (ProgramStep F) VersionedEntry
machine functions same forms = record {
  empty = loaded None;
  step = step procedures functions same;
  Leads = Does functions same forms;
}

-- a part of a checkpoint's image sets its items, as a batch of them does
pub record SetsPart {F L : Type 0} (functions : EdgeAlgebra F L) (same : F → F → Bool) (forms : Functions F)
    (r : VersionedEntry) (before now : ProgramImage F) : Type 0 where
  pub items : List (Item F)
  pub kind : r.1.0 ≡ 4
  pub spelled : AreSpelled forms r.0 items r.1.1
  pub leads : RecordLeads functions same (Batch items) before now

-- over two slots, whose records are those of one disk, and parts
abbrev pub slot_machine : {F L : Type 0} → EdgeAlgebra F L → (F → F → Bool) → Functions F → Rules (ProgramImage F) (ProgramStep F) VersionedEntry
slot_machine functions same forms = record {
  empty = loaded None;
  step = step procedures functions same;
  Leads = λ r before now. Does functions same forms r before now ⊎ SetsPart functions same forms r before now;
}
