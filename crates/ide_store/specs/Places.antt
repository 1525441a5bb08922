-- Where a store of an analysis may stand: the world of either kind is told by the same words.
use Rattle.std.specs.Prelude.{ℕ, Bool, None}
use Rattle.ide_batch.specs.Fold.{ProgramImage, procedures}
use Rattle.ide_batch.specs.Items.{Functions}
use Rattle.ide_journal.specs.Format.{Head}
use Rattle.ide_journal.specs.declared.version.Version.{Version}
use Rattle.ide_lattice.specs.Algebra.{EdgeAlgebra}
use Rattle.ide_theory.specs.Images.{loaded, step}
use Rattle.ide_store.specs.Machine.{ProgramStep, machine, slot_machine}
use Rattle.ide_store.specs.OneDisk.{one_disk}
use Rattle.ide_store.specs.Store.{Store}
use Rattle.ide_store.specs.TwoDisks.{sealing_version, two_disks}
use Rattle.ide_store.specs.Versioned.{VersionedEntry, one_version}
use Rattle.ide_store.specs.World.{Rules}

-- on one disk, whose first page says this; or in two slots on two disks, of that tag
pub data Place : Type 0 where
  OnOneDisk : Head → Place
  OnTwoDisks : ℕ → Place

module _ {F L : Type 0} (functions : EdgeAlgebra F L) (same : F → F → Bool) (forms : Functions F) where
  -- what a record does there
  abbrev pub leads_at : Place → VersionedEntry → ProgramImage F → ProgramImage F → Type 0
  leads_at (OnOneDisk head) = (machine functions same forms).Leads
  leads_at (OnTwoDisks tag) = (slot_machine functions same forms).Leads

  -- the machine of such a place
  abbrev pub machine_at : Place → Rules (ProgramImage F) (ProgramStep F) VersionedEntry
  machine_at place = record { empty = loaded None; step = step procedures functions same; Leads = leads_at place }

  -- and its store
  abbrev pub store_on : Place → Store VersionedEntry
  store_on (OnOneDisk head) = one_version head.version (one_disk head)
  store_on (OnTwoDisks tag) = two_disks (slot_machine functions same forms) tag

  -- the version in which records are sealed, where the writer stands so: on one disk it is always the same
  abbrev pub version_on : (place : Place) → (store_on place).Work → Version
  version_on (OnOneDisk head) work = head.version
  version_on (OnTwoDisks tag) work = sealing_version work
