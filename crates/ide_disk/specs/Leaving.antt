-- What each kind of crash leaves of the changes since the last sync.
use Rattle.std.specs.Prelude.{ℕ, zero, suc, Bool, true, false, ◌+◌, ◌-◌, ◌/◌, List, [], ◌∷◌, ◌++◌, length, take, drop, replicate}
use Rattle.ide_disk.specs.Disk.{put_at}
use Rattle.ide_disk.specs.Record.{taken}
use Rattle.ide_disk.specs.declared.call.Call.{Call}
use Rattle.ide_disk.specs.declared.call.Call.TheVariants.{Look, Write, Shorten, Sync}
use Rattle.ide_disk.specs.declared.leave.Leave.{Leave}
use Rattle.ide_disk.specs.declared.leave.Leave.TheVariants.{Old, New, Half, Fill}

-- the bytes, and zeros up to a length
abbrev pub padded : ℕ → List ℕ → List ℕ
padded len bytes = bytes ++ replicate (len - length bytes) 0

-- what is left of a write over these bytes
abbrev pub left_of_write : Leave → ℕ → List ℕ → List ℕ → List ℕ
left_of_write Old at bytes old = old
left_of_write New at bytes old = put_at at bytes old
left_of_write Half at bytes old = padded (at + length bytes) (put_at at (take (length bytes / 2) bytes) old)
left_of_write (Fill byte) at bytes old = put_at at (replicate (length bytes) byte) old

-- what is left of a cut of these bytes
abbrev pub left_of_cut : Leave → ℕ → List ℕ → List ℕ
left_of_cut Old len old = old
left_of_cut New len old = take len old
left_of_cut Half len old = take len old
left_of_cut (Fill byte) len old = take len old

-- what is left of a call, whose bytes stand first
abbrev pub left_of_call : Leave → Call → List ℕ → List ℕ → List ℕ
left_of_call leave Look bytes old = old
left_of_call leave (Write at count) bytes old = left_of_write leave at (take count bytes) old
left_of_call leave (Shorten len) bytes old = left_of_cut leave len old
left_of_call leave Sync bytes old = old

-- whether it is a sync
abbrev pub is_sync : Call → Bool
is_sync Look = false
is_sync (Write at count) = false
is_sync (Shorten len) = false
is_sync Sync = true

-- how many of the calls are syncs
abbrev pub sync_count : List Call → ℕ
sync_count [] = 0
sync_count (Sync ∷ calls) = sync_count calls + 1
sync_count (call ∷ calls) = sync_count calls

-- a call before a sync is left whole
abbrev pub leave_before : ℕ → Leave → Leave
leave_before zero leave = leave
leave_before (suc syncs) leave = New

-- what is left of these calls, whose bytes stand end to end
abbrev pub left_after : Leave → List Call → List ℕ → List ℕ → List ℕ
left_after leave [] bytes old = old
left_after leave (call ∷ calls) bytes old =
    left_after leave calls (drop (taken call) bytes) (left_of_call (leave_before (sync_count calls) leave) call bytes old)
