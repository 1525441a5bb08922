-- Disk calls as data: what a good one does, what a failed one leaves, and what a crash within one leaves.
use Rattle.std.specs.Prelude.{ℕ, List, ◌∷◌, length}
use Rattle.ide_disk.specs.Disk.{CrashLeaves, Cut, DiskState, LeavesAfter, LeavesAfterSync, LeftOf, Wrote, cut_to, synced_now, written}

pub data DiskCall : Type 0 where
  Writes : ℕ → List ℕ → DiskCall
  Cuts : ℕ → DiskCall
  Syncs : DiskCall

-- the disk after it
abbrev pub after_disk_call : DiskCall → DiskState → DiskState
after_disk_call (Writes at bytes) disk = written at bytes disk
after_disk_call (Cuts len) disk = cut_to len disk
after_disk_call Syncs disk = synced_now disk

-- it failed
abbrev pub FailsSo : DiskCall → DiskState → DiskState → Type 0
FailsSo (Writes at bytes) old new = LeavesAfter (Wrote at (length bytes)) old new
FailsSo (Cuts len) old new = LeavesAfter (Cut len) old new
FailsSo Syncs old new = LeavesAfterSync old new

-- a crash within it may leave this
abbrev pub LeavesWithin : DiskCall → DiskState → List ℕ → Type 0
LeavesWithin (Writes at bytes) disk left = LeftOf disk.synced (Wrote at (length bytes) ∷ disk.changes) left
LeavesWithin (Cuts len) disk left = LeftOf disk.synced (Cut len ∷ disk.changes) left
LeavesWithin Syncs disk left = CrashLeaves disk left

-- a crash of this disk leaves no more than one of that, and what is read is something that a crash may leave
pub record LeavesNoMoreThan (old new : DiskState) : Type 0 where
  pub leaves : (left : List ℕ) → CrashLeaves new left → CrashLeaves old left
  pub possible : CrashLeaves new new.now
