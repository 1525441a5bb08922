-- What the contents of a disk in memory say of themselves.
use Rattle.std.specs.Prelude.{◌≡◌, ℕ, ◌+◌, ◌<◌, ◌≤◌, max, List, length}
use Rattle.ide_disk.specs.Disk.{DiskState, settled, written, cut_to}
use Rattle.ide_disk.specs.Record.{replay, LeftSince}
use Rattle.ide_disk.specs.Leaving.{left_after}
use Rattle.ide_disk.specs.Time.{Elapses}
use Rattle.ide_disk.specs.declared.leave.Leave.{Leave}
use Rattle.ide_disk.specs.declared.contents.Contents.{Contents}

-- how many bytes there are
abbrev pub contents_size : Contents → ℕ
contents_size contents = length contents.bytes.items

-- the disk after the recorded calls
abbrev pub contents_state : Contents → DiskState
contents_state contents = replay contents.calls.items contents.written.items (settled contents.start.items)

-- the moment: how many calls are recorded
abbrev pub contents_moment : Contents → ℕ
contents_moment contents = length contents.calls.items

-- what a crash at some moment since t may have left
abbrev pub contents_since : Contents → ℕ → List ℕ → Type 0
contents_since contents = LeftSince contents.calls.items contents.written.items (settled contents.start.items)

-- what a crash of this kind leaves
abbrev pub contents_left : Leave → Contents → List ℕ
contents_left leave contents = left_after leave contents.calls.items contents.written.items contents.start.items

-- how many calls and written bytes are recorded
abbrev pub recorded_count : Contents → ℕ
recorded_count contents = length contents.calls.items + length contents.written.items

-- one more call, with so many bytes written, can be recorded
abbrev pub HasSpace : Contents → ℕ → Type 0
HasSpace contents count = recorded_count contents + count < contents.log

-- so can a write, which ends within the room
abbrev pub CanHold : Contents → ℕ → ℕ → Type 0
CanHold contents at count = (at + count ≤ contents.room) × HasSpace contents count

-- the limits stay, time goes on, and no more than one call and so many bytes are recorded
pub record Records (count : ℕ) (old new : Contents) : Type 0 where
  pub room : new.room ≡ old.room
  pub log : new.log ≡ old.log
  pub recorded : recorded_count new ≤ recorded_count old + count + 1
  pub time : Elapses contents_moment contents_since contents_state old new

-- the bytes are the same, and what a crash may leave
pub record ShowsTheSame (old new : Contents) : Type 0 where
  pub bytes : new.bytes.items ≡ old.bytes.items
  pub state : contents_state new ≡ contents_state old

-- the bytes were written there
pub record HasWritten (at : ℕ) (bytes : List ℕ) (old new : Contents) : Type 0 where
  pub size : contents_size new ≡ max (contents_size old) (at + length bytes)
  pub state : contents_state new ≡ written at bytes (contents_state old)

-- the bytes from a length on were dropped
pub record HasCut (len : ℕ) (old new : Contents) : Type 0 where
  pub size : contents_size new ≡ len
  pub state : contents_state new ≡ cut_to len (contents_state old)
