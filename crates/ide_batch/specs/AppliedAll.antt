-- What applying a journal's records does to a core, one after the other, and where it stops.
use Rattle.std.specs.Prelude.{◌≡◌, Bool, List, [], ◌∷◌, ◌++◌, length}
use Rattle.ide_journal.specs.Format.{Entry}
use Rattle.ide_journal.specs.declared.version.Version.{Version}
use Rattle.ide_lattice.specs.Algebra.{EdgeAlgebra}
use Rattle.ide_steps.specs.Core.{CoreData}
use Rattle.ide_wire.specs.declared.refused.Refused.{Refused}
use Rattle.ide_batch.specs.Applied.{ApplyRefusal, HasImage, IsApplied}
use Rattle.ide_batch.specs.Bodies.{IsEntryOf}
use Rattle.ide_batch.specs.Fold.{RecordsLead, ProgramImage}
use Rattle.ide_batch.specs.Items.{Functions}
use Rattle.ide_batch.specs.Records.{RecordValue}

-- the journal's records spell these, each the one at its place
abbrev pub AreEntriesOf : {F : Type 0} → Functions F → Version → List (RecordValue F) → List Entry → Type 0
AreEntriesOf functions version [] [] = Unit {0}
AreEntriesOf functions version (r ∷ rs) (entry ∷ entries) = IsEntryOf functions version r entry × AreEntriesOf functions version rs entries
AreEntriesOf functions version _ _ = ⊥

module _ {F L : Type 0} (functions : Functions F) (version : Version) (edge : EdgeAlgebra F L) (same : F → F → Bool) where
  -- each is applied to the core as those before it left it
  abbrev pub AreApplied : List Entry → (old new : CoreData F) → Type 0
  AreApplied [] old new = old ≡ new
  AreApplied (entry ∷ entries) old new =
      (between : CoreData F) × IsApplied functions version edge same old between entry × AreApplied entries between new

  -- what they spell leads from each image that the core had to one that it has
  pub record LeadOver (entries : List Entry) (old new : CoreData F) : Type 0 where
    pub values : List (RecordValue F)
    pub spelled : AreEntriesOf functions version values entries
    pub leads : (image : ProgramImage F) → HasImage image old
        → (now : ProgramImage F) × RecordsLead edge same values image now × HasImage now new

  -- those before one are applied, and that one is refused, with its number
  pub record StopsAt (entries : List Entry) (old new : CoreData F) (refused : Refused) : Type 0 where
    pub before : List Entry
    pub entry : Entry
    pub after : List Entry
    pub split : entries ≡ before ++ entry ∷ after
    pub between : CoreData F
    pub applied : AreApplied before old between
    pub refusal : ApplyRefusal functions version (length before) between new entry refused
