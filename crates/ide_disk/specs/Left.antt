-- What a crash leaves of the recorded calls is something that the model allows.
use Rattle.std.specs.Prelude.{◌≡◌, ℕ, zero, suc, ◌/◌, ◌<◌, ◌≤◌, List, [], ◌∷◌, length, take, drop, replicate, refl}
use Rattle.std.proofs.Common.{arith, ap, ◌∙◌}
use Rattle.std.proofs.lemmas.List.{length-take, length-replicate}
use Rattle.ide_disk.specs.Disk.{Change, Wrote, Cut, DiskState, put_at, Keeps, CrashLeaves}
use Rattle.ide_disk.specs.Kept.{keeps_more, keeps_left, keeps_put, keeps_pad, keeps_cut}
use Rattle.ide_disk.specs.Leaving.{left_of_write, left_of_cut, left_of_call, leave_before, left_after, sync_count}
use Rattle.ide_disk.specs.Record.{taken, after_call, replay}
use Rattle.ide_disk.specs.declared.call.Call.{Call}
use Rattle.ide_disk.specs.declared.call.Call.TheVariants.{Look, Write, Shorten, Sync}
use Rattle.ide_disk.specs.declared.leave.Leave.{Leave}
use Rattle.ide_disk.specs.declared.leave.Leave.TheVariants.{Old, New, Half, Fill}

keeps_write : (leave : Leave) (at : ℕ) (bytes synced : List ℕ) (changes : List Change) (old : List ℕ) → Keeps synced changes old
    → Keeps synced (Wrote at (length bytes) ∷ changes) (left_of_write leave at bytes old)
keeps_write Old at bytes synced changes old keeps = keeps_more synced (Wrote at (length bytes)) changes old keeps
keeps_write New at bytes synced changes old keeps = keeps_put synced changes old at (length bytes) bytes (omega arith) keeps
keeps_write Half at bytes synced changes old keeps =
    keeps_pad synced (Wrote at (length bytes) ∷ changes) (put_at at (take (length bytes / 2) bytes) old) _
    (keeps_put synced changes old at (length bytes) (take (length bytes / 2) bytes) (omega (arith, length-take (length bytes / 2) bytes)) keeps)
keeps_write (Fill byte) at bytes synced changes old keeps =
    keeps_put synced changes old at (length bytes) (replicate (length bytes) byte) (omega (arith, length-replicate (length bytes) byte)) keeps

keeps_shorten : (leave : Leave) (len : ℕ) (synced : List ℕ) (changes : List Change) (old : List ℕ) → Keeps synced changes old
    → Keeps synced (Cut len ∷ changes) (left_of_cut leave len old)
keeps_shorten Old len synced changes old keeps = keeps_more synced (Cut len) changes old keeps
keeps_shorten New len synced changes old keeps = keeps_cut synced changes old len keeps
keeps_shorten Half len synced changes old keeps = keeps_cut synced changes old len keeps
keeps_shorten (Fill byte) len synced changes old keeps = keeps_cut synced changes old len keeps

-- what is read after a call is something that a crash may leave, if it was so before
pub possible_after : (call : Call) (bytes : List ℕ) (disk : DiskState) → CrashLeaves disk disk.now
    → CrashLeaves (after_call call bytes disk) (after_call call bytes disk).now
possible_after Look bytes disk possible = possible
possible_after (Write at count) bytes disk possible =
    keeps_write New at (take count bytes) disk.synced disk.changes disk.now (keeps_left disk.synced disk.changes disk.now possible)
possible_after (Shorten len) bytes disk possible =
    keeps_shorten New len disk.synced disk.changes disk.now (keeps_left disk.synced disk.changes disk.now possible)
possible_after Sync bytes disk possible = refl

pub possible_replay : (calls : List Call) (bytes : List ℕ) (disk : DiskState) → CrashLeaves disk disk.now
    → CrashLeaves (replay calls bytes disk) (replay calls bytes disk).now
possible_replay [] bytes disk possible = possible
possible_replay (call ∷ calls) bytes disk possible =
    possible_replay calls (drop (taken call) bytes) (after_call call bytes disk) (possible_after call bytes disk possible)

-- a call that is left whole leaves what a read gives after it
whole_call : (call : Call) (bytes : List ℕ) (disk : DiskState) → left_of_call New call bytes disk.now ≡ (after_call call bytes disk).now
whole_call Look bytes disk = refl
whole_call (Write at count) bytes disk = refl
whole_call (Shorten len) bytes disk = refl
whole_call Sync bytes disk = refl

before_sync : (syncs : ℕ) (leave : Leave) → 0 < syncs → leave_before syncs leave ≡ New
before_sync zero leave some = absurd (omega (arith, some))
before_sync (suc syncs) leave some = refl

behind_syncs : (syncs : ℕ) (leave : Leave) → syncs ≡ 0 → leave_before syncs leave ≡ leave
behind_syncs zero leave none = refl
behind_syncs (suc syncs) leave none = absurd (omega (arith, none))

before_new : (syncs : ℕ) → leave_before syncs New ≡ New
before_new zero = refl
before_new (suc syncs) = refl

more_syncs : (call : Call) (calls : List Call) → sync_count calls ≤ sync_count (call ∷ calls)
more_syncs Look calls = omega arith
more_syncs (Write at count) calls = omega arith
more_syncs (Shorten len) calls = omega arith
more_syncs Sync calls = omega arith

-- before a sync all is left whole
whole_step : (leave : Leave) (call : Call) (calls : List Call) (bytes : List ℕ) (disk : DiskState) (old : List ℕ)
    → (0 < sync_count (call ∷ calls) → old ≡ disk.now) → 0 < sync_count calls
    → left_of_call (leave_before (sync_count calls) leave) call bytes old ≡ (after_call call bytes disk).now
whole_step leave call calls bytes disk old whole some =
    let kind = before_sync (sync_count calls) leave some in
    let is = whole (omega (arith, more_syncs call calls, some)) in
    ap (λ (k : Leave). left_of_call k call bytes old) kind ∙ ap (λ (xs : List ℕ). left_of_call New call bytes xs) is ∙ whole_call call bytes disk

-- behind the last sync, any kind leaves what a crash may leave
left_step : (kind : Leave) (call : Call) (calls : List Call) (bytes : List ℕ) (disk : DiskState) (old : List ℕ)
    → (0 < sync_count (call ∷ calls) → old ≡ disk.now) → (sync_count (call ∷ calls) ≡ 0 → CrashLeaves disk old) → sync_count calls ≡ 0
    → CrashLeaves (after_call call bytes disk) (left_of_call kind call bytes old)
left_step kind Look calls bytes disk old whole left none = left none
left_step kind (Write at count) calls bytes disk old whole left none =
    keeps_write kind at (take count bytes) disk.synced disk.changes old (keeps_left disk.synced disk.changes old (left none))
left_step kind (Shorten len) calls bytes disk old whole left none =
    keeps_shorten kind len disk.synced disk.changes old (keeps_left disk.synced disk.changes old (left none))
left_step kind Sync calls bytes disk old whole left none = whole (omega arith)

-- each kind of crash leaves one of the outcomes that the model allows
pub allowed : (leave : Leave) (calls : List Call) (bytes : List ℕ) (disk : DiskState) (old : List ℕ)
    → (0 < sync_count calls → old ≡ disk.now) → (sync_count calls ≡ 0 → CrashLeaves disk old)
    → CrashLeaves (replay calls bytes disk) (left_after leave calls bytes old)
allowed leave [] bytes disk old whole left = left refl
allowed leave (call ∷ calls) bytes disk old whole left =
    allowed leave calls (drop (taken call) bytes) (after_call call bytes disk) (left_of_call (leave_before (sync_count calls) leave) call bytes old)
    (whole_step leave call calls bytes disk old whole)
    (left_step (leave_before (sync_count calls) leave) call calls bytes disk old whole left)

-- the old bytes are those of the last sync
old_step : (call : Call) (calls : List Call) (bytes : List ℕ) (disk : DiskState) (old : List ℕ)
    → (0 < sync_count (call ∷ calls) → old ≡ disk.now) → (sync_count (call ∷ calls) ≡ 0 → old ≡ disk.synced) → sync_count calls ≡ 0
    → left_of_call Old call bytes old ≡ (after_call call bytes disk).synced
old_step Look calls bytes disk old whole left none = left none
old_step (Write at count) calls bytes disk old whole left none = left none
old_step (Shorten len) calls bytes disk old whole left none = left none
old_step Sync calls bytes disk old whole left none = whole (omega arith)

pub left_after-old : (calls : List Call) (bytes : List ℕ) (disk : DiskState) (old : List ℕ)
    → (0 < sync_count calls → old ≡ disk.now) → (sync_count calls ≡ 0 → old ≡ disk.synced)
    → left_after Old calls bytes old ≡ (replay calls bytes disk).synced
left_after-old [] bytes disk old whole left = left refl
left_after-old (call ∷ calls) bytes disk old whole left =
    left_after-old calls (drop (taken call) bytes) (after_call call bytes disk) (left_of_call (leave_before (sync_count calls) Old) call bytes old)
    (whole_step Old call calls bytes disk old whole)
    (λ none. ap (λ (k : Leave). left_of_call k call bytes old) (behind_syncs (sync_count calls) Old none) ∙ old_step call calls bytes disk old whole left none)

-- the new bytes are those that a read gives
pub left_after-new : (calls : List Call) (bytes : List ℕ) (disk : DiskState) → left_after New calls bytes disk.now ≡ (replay calls bytes disk).now
left_after-new [] bytes disk = refl
left_after-new (call ∷ calls) bytes disk =
    ap (λ (xs : List ℕ). left_after New calls (drop (taken call) bytes) xs)
    (ap (λ (k : Leave). left_of_call k call bytes disk.now) (before_new (sync_count calls)) ∙ whole_call call bytes disk)
    ∙ left_after-new calls (drop (taken call) bytes) (after_call call bytes disk)
