-- A record of calls, and the disk after them.
use Rattle.std.specs.Prelude.{◌≡◌, ℕ, ◌+◌, ◌≤◌, max, List, [], ◌∷◌, ◌++◌, length, take, drop}
use Rattle.ide_disk.specs.Disk.{DiskState, CrashLeaves, written, cut_to, synced_now}
use Rattle.ide_disk.specs.declared.call.Call.{Call}
use Rattle.ide_disk.specs.declared.call.Call.TheVariants.{Look, Write, Shorten, Sync}

-- how many of the recorded bytes are the call's
abbrev pub taken : Call → ℕ
taken Look = 0
taken (Write at count) = count
taken (Shorten len) = 0
taken Sync = 0

-- how many are those of the calls
abbrev pub all_taken : List Call → ℕ
all_taken [] = 0
all_taken (call ∷ calls) = taken call + all_taken calls

-- where the call's range ends
abbrev pub end_of : Call → ℕ
end_of Look = 0
end_of (Write at count) = at + count
end_of (Shorten len) = 0
end_of Sync = 0

-- where the furthest of the ranges ends
abbrev pub furthest_end : List Call → ℕ
furthest_end [] = 0
furthest_end (call ∷ calls) = max (end_of call) (furthest_end calls)

-- the disk after a call, whose bytes stand first
abbrev pub after_call : Call → List ℕ → DiskState → DiskState
after_call Look bytes disk = disk
after_call (Write at count) bytes disk = written at (take count bytes) disk
after_call (Shorten len) bytes disk = cut_to len disk
after_call Sync bytes disk = synced_now disk

-- the disk after these calls, whose bytes stand end to end
abbrev pub replay : List Call → List ℕ → DiskState → DiskState
replay [] bytes disk = disk
replay (call ∷ calls) bytes disk = replay calls (drop (taken call) bytes) (after_call call bytes disk)

-- a crash after some number of the calls, and no fewer than t, may have left this
abbrev pub LeftSince : List Call → List ℕ → DiskState → ℕ → List ℕ → Type 0
LeftSince calls bytes disk t left =
    (k : ℕ) × (t ≤ k) × (k ≤ length calls) × CrashLeaves (replay (take k calls) bytes disk) left

-- one call more is recorded, and its bytes
pub record IsNext (call : Call) (more : List ℕ) (calls new_calls : List Call) (bytes new_bytes : List ℕ) : Type 0 where
  pub calls_are : new_calls ≡ calls ++ call ∷ []
  pub bytes_are : new_bytes ≡ bytes ++ more
