-- Why a half that works is not opened over the records of a store: never for the disk.
use Rattle.std.proofs.Common.{◌≡◌, ℕ, List}
use Rattle.ide_batch.specs.Applied.{ApplyRefusal, damaged, memory}
use Rattle.ide_journal.specs.Format.{Entry}
use Rattle.ide_journal.specs.declared.version.Version.{Version}
use Rattle.ide_steps.specs.Core.{CoreData}
use Rattle.ide_wire.specs.declared.refused.Refused.{Refused}
use Rattle.ide_wire.specs.declared.refused.Refused.TheVariants.{Disk}
use Rattle.ide_store.specs.Opening.{IsOpenStop, fold_stops, too_many}
use Rattle.ide_store.specs.Table.{Analysis, forms_of}

-- no record is refused for the disk
record_not_disk : {F L : Type 0} (a : Analysis F L) (version : Version) (n : ℕ) (old new : CoreData F) (entry : Entry) (refused : Refused)
    → ApplyRefusal (forms_of a) version n old new entry refused → refused ≡ Disk → ⊥
record_not_disk a version n old new entry _ (damaged misfit same) is = cc (is)
record_not_disk a version n old new entry _ (memory kept first image) is = cc (is)

-- nor is a half over the records of a store
pub half_not_disk : {F L : Type 0} (a : Analysis F L) (version : Version) (given : List Entry) (sealed : ℕ) (refused : Refused)
    → IsOpenStop a version given sealed refused → refused ≡ Disk → ⊥
half_not_disk a version given sealed _ (too_many more) is = cc (is)
half_not_disk a version given sealed refused (fold_stops old new has stops) is =
    record_not_disk a version _ stops.between new stops.entry refused stops.refusal is
