-- What a disk holds: what was synced, what was changed since, what a read gives, and what a crash may leave.
use Rattle.std.specs.Prelude.{◌≡◌, ◌⊎◌, ℕ, ◌+◌, ◌<◌, ◌≤◌, List, [], ◌∷◌, ◌++◌, length, take, drop, slice_index, slice_range}

-- a change since the last sync: a count of bytes written at a place, or a cut to a length
pub data Change : Type 0 where
  Wrote : ℕ → ℕ → Change
  Cut : ℕ → Change

-- a disk: the bytes at the last sync, the changes since, the latest first, and the bytes that a read gives
pub record DiskState : Type 0 where
  pub synced : List ℕ
  pub changes : List Change
  pub now : List ℕ

-- a disk on which all is synced
abbrev pub settled : List ℕ → DiskState
settled bytes = record { synced = bytes; changes = []; now = bytes }

-- so many of the bytes that a read gives, from a place on
abbrev pub read_at : ℕ → ℕ → DiskState → List ℕ
read_at at count disk = slice_range disk.now at (at + count)

-- the old bytes with others over them, from a place on
abbrev pub put_at : ℕ → List ℕ → List ℕ → List ℕ
put_at at bytes old = take at old ++ bytes ++ drop (at + length bytes) old

-- the disk after a write
abbrev pub written : ℕ → List ℕ → DiskState → DiskState
written at bytes disk =
    record { synced = disk.synced; changes = Wrote at (length bytes) ∷ disk.changes; now = put_at at bytes disk.now }

-- the disk after a cut
abbrev pub cut_to : ℕ → DiskState → DiskState
cut_to len disk = record { synced = disk.synced; changes = Cut len ∷ disk.changes; now = take len disk.now }

-- the disk after a sync
abbrev pub synced_now : DiskState → DiskState
synced_now disk = settled disk.now

-- a place that lies outside of each written range and below each cut
abbrev pub IsKept : List Change → ℕ → Type 0
IsKept [] i = Unit {0}
IsKept (Wrote at count ∷ changes) i = ((i < at) ⊎ (at + count ≤ i)) × IsKept changes i
IsKept (Cut len ∷ changes) i = (i < len) × IsKept changes i

-- each synced byte at such a place is left; of the other bytes and of the length nothing is said
pub record Keeps (synced : List ℕ) (changes : List Change) (left : List ℕ) : Type 0 where
  pub within : (i : ℕ) → i < length synced → IsKept changes i → i < length left
  pub same : (i : ℕ) → i < length synced → IsKept changes i → slice_index left i ≡ slice_index synced i

-- what a crash may leave after these changes: with none, just what was synced
abbrev pub LeftOf : List ℕ → List Change → List ℕ → Type 0
LeftOf synced [] left = left ≡ synced
LeftOf synced (change ∷ changes) left = Keeps synced (change ∷ changes) left

-- what a crash at this moment may leave
abbrev pub CrashLeaves : DiskState → List ℕ → Type 0
CrashLeaves disk left = LeftOf disk.synced disk.changes left

-- after a change, good or failed: a crash leaves no more than the change allows, and what is read is something that a crash may leave
pub record LeavesAfter (change : Change) (old new : DiskState) : Type 0 where
  pub leaves : (left : List ℕ) → CrashLeaves new left → LeftOf old.synced (change ∷ old.changes) left
  pub possible : CrashLeaves new new.now

-- after a sync, good or failed: a crash leaves no more than before it, and what is read is something that a crash may leave
pub record LeavesAfterSync (old new : DiskState) : Type 0 where
  pub leaves : (left : List ℕ) → CrashLeaves new left → CrashLeaves old left
  pub possible : CrashLeaves new new.now
