-- What a disk in memory shows that keeps no record.
use Rattle.std.specs.Prelude.{◌≡◌, ℕ, List, Result, length}
use Rattle.ide_disk.specs.Time.{next_count, failures_after}
use Rattle.ide_bench.specs.declared.plain_disk.PlainDisk.{PlainDisk}

-- the bytes
abbrev pub plain_bytes : PlainDisk → List ℕ
plain_bytes disk = disk.bytes.items

-- how many there are
abbrev pub plain_size : PlainDisk → ℕ
plain_size disk = length (plain_bytes disk)

-- how many there may be
abbrev pub plain_room : PlainDisk → ℕ
plain_room disk = disk.room

-- how many calls were made
abbrev pub plain_calls : PlainDisk → ℕ
plain_calls disk = disk.calls

-- how many of them failed
abbrev pub plain_failures : PlainDisk → ℕ
plain_failures disk = disk.failures

-- one more failure is counted, and all else stays
pub record CountsFailure (old new : PlainDisk) : Type 0 where
  pub failures : plain_failures new ≡ next_count (plain_failures old)
  pub calls : plain_calls new ≡ plain_calls old
  pub bytes : new.bytes ≡ old.bytes
  pub room : plain_room new ≡ plain_room old

-- the call is counted, as a failure where it failed, and the room stays
pub record CountsCall {T E : Type 0} (result : Result T E) (old new : PlainDisk) : Type 0 where
  pub calls : plain_calls new ≡ next_count (plain_calls old)
  pub failures : plain_failures new ≡ failures_after result (plain_failures old)
  pub room : plain_room new ≡ plain_room old
