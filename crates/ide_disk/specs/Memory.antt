-- What a disk in memory shows beside what every disk does.
use Rattle.std.specs.Prelude.{◌≡◌, ℕ, ◌+◌, ◌<◌, ◌≤◌, List, Option, Result}
use Rattle.ide_disk.specs.Disk.{DiskState}
use Rattle.ide_disk.specs.Contents.{contents_size, contents_left, contents_state, contents_moment, contents_since, recorded_count}
use Rattle.ide_disk.specs.Time.{Elapses, next_count, failures_after}
use Rattle.ide_disk.specs.Counter.{IsToldToFail}
use Rattle.ide_disk.specs.declared.leave.Leave.{Leave}
use Rattle.ide_disk.specs.declared.memory.MemDisk.{MemDisk}

-- how many bytes there are
abbrev pub memory_size : MemDisk → ℕ
memory_size disk = contents_size disk.contents

-- the disk after its recorded calls
abbrev pub memory_state : MemDisk → DiskState
memory_state disk = contents_state disk.contents

-- the bytes that a read gives
abbrev pub memory_bytes : MemDisk → List ℕ
memory_bytes disk = (memory_state disk).now

-- how many calls are recorded
abbrev pub memory_moment : MemDisk → ℕ
memory_moment disk = contents_moment disk.contents

-- what a crash at some moment since t may have left
abbrev pub memory_since : MemDisk → ℕ → List ℕ → Type 0
memory_since disk = contents_since disk.contents

-- how many bytes there may be
abbrev pub room_of : MemDisk → ℕ
room_of disk = disk.contents.room

-- how many calls and written bytes may be recorded
abbrev pub log_of : MemDisk → ℕ
log_of disk = disk.contents.log

-- how many are
abbrev pub log_count : MemDisk → ℕ
log_count disk = recorded_count disk.contents

-- how many calls were made
abbrev pub call_count : MemDisk → ℕ
call_count disk = disk.counter.calls

-- how many of them failed
abbrev pub failure_count : MemDisk → ℕ
failure_count disk = disk.counter.failures

-- what a crash of this kind leaves, by the disk's own record
abbrev pub crash_left : Leave → MemDisk → List ℕ
crash_left leave disk = contents_left leave disk.contents

-- the call that is told to fail alone
abbrev pub failing_call : MemDisk → Option ℕ
failing_call disk = disk.counter.fail_at

-- the first of the calls that are all told to fail
abbrev pub stopped_call : MemDisk → Option ℕ
stopped_call disk = disk.counter.stop_at

-- the next call is not told to fail, and can be recorded with so many written bytes
pub record CanCall (disk : MemDisk) (count : ℕ) : Type 0 where
  pub untold : IsToldToFail disk.counter (next_count (call_count disk)) → ⊥
  pub space : log_count disk + count < log_of disk

-- so can a write, which ends within the room
pub record CanWrite (disk : MemDisk) (at count : ℕ) : Type 0 where
  pub call : CanCall disk count
  pub room : at + count ≤ room_of disk

-- the bytes, their past and the counts are the same
pub record IsSameDisk (old new : MemDisk) : Type 0 where
  pub contents : new.contents ≡ old.contents
  pub calls : new.counter.calls ≡ old.counter.calls
  pub failures : new.counter.failures ≡ old.counter.failures

-- time goes on; the call is counted, as a failure where it failed, and recorded with no more than so many bytes; what is told to fail and the limits stay
pub record CountsCall {T E : Type 0} (result : Result T E) (count : ℕ) (old new : MemDisk) : Type 0 where
  pub time : Elapses memory_moment memory_since memory_state old new
  pub calls : call_count new ≡ next_count (call_count old)
  pub failures : failure_count new ≡ failures_after result (failure_count old)
  pub room : room_of new ≡ room_of old
  pub log : log_of new ≡ log_of old
  pub recorded : log_count new ≤ log_count old + count + 1
  pub failing : failing_call new ≡ failing_call old
  pub stopped : stopped_call new ≡ stopped_call old
