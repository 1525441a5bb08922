-- Why a store is not made, read, opened or written, with what was tested.
use Rattle.std.specs.Prelude.{◌≡◌, ◌≢◌, ℕ, List, Result, Err, OnOk}
use Rattle.ide_disk.specs.Disk.{settled}
use Rattle.ide_disk.specs.OneCall.{FailsOnce}
use Rattle.ide_disk.specs.declared.disk.Disk.{Ghosts}
use Rattle.ide_wire.specs.declared.refused.Refused.{Refused}
use Rattle.ide_wire.specs.declared.refused.Refused.TheVariants.{NoMemory, Disk, Failed, NotAStore, WrongInstance, Damaged}
use Rattle.ide_journal.specs.Format.{Head}
use Rattle.ide_journal.specs.Moments.{LeavesOnly}
use Rattle.ide_journal.specs.Reading.{IsDamagedAt, IsStore, IsStoreOf, IsNoStore}
use Rattle.ide_journal.specs.Stands.{HasFailed}
use Rattle.ide_journal.specs.declared.journal.Journal.{Journal}

-- why records are not read: want of memory, or one that is open and not whole
pub data IsRecordRefusal (bytes : List ℕ) : Refused → Type 0 where
  record_memory : IsRecordRefusal bytes NoMemory
  record_damaged : {number : ℕ} → IsDamagedAt number bytes → IsRecordRefusal bytes (Damaged number)

-- why a file is not read as a store with that tag
pub data IsFileRefusal (tag : ℕ) (bytes : List ℕ) : Refused → Type 0 where
  no_memory : IsFileRefusal tag bytes NoMemory
  no_store : IsNoStore bytes → IsFileRefusal tag bytes NotAStore
  other_tag : (told : Head) → IsStore told bytes → told.tag ≢ tag → IsFileRefusal tag bytes WrongInstance
  damaged : {number : ℕ} → IsStoreOf tag bytes → IsDamagedAt number bytes → IsFileRefusal tag bytes (Damaged number)

-- why no store is made: want of memory, which leaves the disk as it was, or a call of the disk that failed
pub data IsCreateRefusal {D : Type 0} (G : Ghosts D) (old new : D) : Refused → Type 0 where
  create_memory : new ≡ old → IsCreateRefusal G old new NoMemory
  create_device : FailsOnce G old new → IsCreateRefusal G old new Disk

-- why a store with that tag is not opened: a call of the disk that failed, or what its file has, and then the disk comes back
-- synced and with the bytes that it had
pub data IsOpenRefusal {D : Type 0} (G : Ghosts D) (tag : ℕ) (old new : D) : Refused → Type 0 where
  open_device : FailsOnce G old new → IsOpenRefusal G tag old new Disk
  open_file : {refused : Refused} → IsFileRefusal tag (G.state old).now refused → G.state new ≡ settled (G.state old).now
      → IsOpenRefusal G tag old new refused

-- why no tag is told: a call of the disk that failed, or a file that is no store
pub data IsTagRefusal (bytes : List ℕ) : Refused → Type 0 where
  tag_device : IsTagRefusal bytes Disk
  tag_no_store : IsNoStore bytes → IsTagRefusal bytes NotAStore

-- why a record does not go on: its disk call failed, or one had failed before
pub data IsAdvanceRefusal {D : Type 0} {G : Ghosts D} (old new : Journal D G) : Refused → Type 0 where
  advance_device : HasFailed new → FailsOnce G old.disk new.disk → IsAdvanceRefusal old new Disk
  advance_failed : HasFailed old → IsAdvanceRefusal old new Failed

-- no call of the disk fails at Ok, and one does where the refusal is the disk's
pub record CountsFaults {D T : Type 0} (G : Ghosts D) (result : Result T Refused) (old new : D) : Type 0 where
  pub ok : OnOk result (G.failures new ≡ G.failures old)
  pub fault : result ≡ Err Disk → FailsOnce G old new

-- disk calls were made: an honest disk stays so, a crash at any moment leaves only what P holds of, and the failures are counted
pub record RunsOn {D T : Type 0} (G : Ghosts D) (result : Result T Refused) (old new : D) (P : List ℕ → Type 0) : Type 0 where
  pub honest : G.honest old → G.honest new
  pub any_moment : G.honest old → LeavesOnly G old new P
  pub failures : CountsFaults G result old new
