-- What is known of a store of an analysis, wherever it stands.
use Rattle.std.proofs.Common.{◌≡◌, ℕ, ◌≤◌, inl}
use Rattle.ide_batch.specs.Fold.{ProgramImage}
use Rattle.ide_journal.specs.Format.{IsEntry}
use Rattle.ide_wire.specs.Form.{IsPrefixFree}
use Rattle.ide_store.specs.Machine.{Does, machine, slot_machine}
use Rattle.ide_store.specs.Places.{Place, OnOneDisk, OnTwoDisks, version_on}
use Rattle.ide_store.specs.Store.{StoreLaws}
use Rattle.ide_store.specs.Table.{Analysis, forms_of, rules_at, store_at}
use Rattle.ide_store.specs.Versioned.{VersionedEntry}
use Rattle.ide_store.specs.World.{AreAlike, AreExact}
use Rattle.ide_store.proofs.Machine.{machine_is_exact, slot_machine_is_exact}
use Rattle.ide_store.proofs.OneVersion.{one_disk_in_version}
use Rattle.ide_store.proofs.TwoDisks.{two_disks_keep}

module _ {F L : Type 0} (a : Analysis F L) where
  -- a record leads from an image to one other at most
  pub exact_at : IsPrefixFree a.proper a.form → (place : Place) → AreExact (rules_at a place)
  exact_at free (OnOneDisk head) = machine_is_exact a.functions a.same (forms_of a) free
  exact_at free (OnTwoDisks tag) = slot_machine_is_exact a.functions a.same (forms_of a) free

  -- its store keeps what a store has to
  pub laws_at : (place : Place) → StoreLaws (AreAlike (rules_at a place)) (store_at a place)
  laws_at (OnOneDisk head) = one_disk_in_version (machine a.functions a.same (forms_of a)) head
  laws_at (OnTwoDisks tag) = two_disks_keep (slot_machine a.functions a.same (forms_of a)) tag

  -- a record does what it spells
  pub does_at : (place : Place) (r : VersionedEntry) (before now : ProgramImage F) → Does a.functions a.same (forms_of a) r before now
      → (rules_at a place).Leads r before now
  does_at (OnOneDisk head) r before now does = does
  does_at (OnTwoDisks tag) r before now does = inl does

  -- and may be the next one, where there is a number left and it is of the version in which records are sealed
  pub fits_at : (place : Place) (work : (store_at a place).Work) (number : ℕ) (r : VersionedEntry)
      → r.0 ≡ version_on a.functions a.same (forms_of a) place work → IsEntry r.1 → number ≤ 4294967294 → (store_at a place).Fits work number r
  fits_at (OnOneDisk head) work number r is proper less = (is, (proper, less))
  fits_at (OnTwoDisks tag) work number r is proper less = (is, (proper, less))
