-- The contents after one more recorded call.
use Rattle.std.specs.Prelude.{◌≡◌, ℕ, ◌+◌, ◌≤◌, max, List, [], ◌∷◌, ◌++◌, length, refl}
use Rattle.std.proofs.Common.{arith, sym, subst, ap, ◌∙◌}
use Rattle.std.proofs.lemmas.List.{length-append, length_push, take_all}
use Rattle.ide_disk.specs.Contents.{contents_state, contents_moment, contents_since, Records}
use Rattle.ide_disk.specs.Disk.{Change, Wrote, Cut, DiskState, CrashLeaves, LeavesAfter, LeavesAfterSync, settled, written, cut_to, synced_now}
use Rattle.ide_disk.specs.Kept.{keeps_left, keeps_more}
use Rattle.ide_disk.specs.Left.{possible_after, possible_replay}
use Rattle.ide_disk.specs.Past.{Calls, all_taken-push, replay_next, elapses}
use Rattle.ide_disk.specs.Record.{IsNext, all_taken, taken, end_of, furthest_end, after_call, replay, LeftSince}
use Rattle.ide_disk.specs.Time.{Elapses}
use Rattle.ide_disk.specs.declared.call.Call.{Call}
use Rattle.ide_disk.specs.declared.contents.Contents.{Contents}
use Rattle.ide_disk.specs.declared.call.Call.TheVariants.{Write, Shorten}

pub state_next : (call : Call) (more : List ℕ) (calls new_calls : List Call) (bytes new_bytes start : List ℕ) → IsNext call more calls new_calls bytes new_bytes
    → all_taken calls ≡ length bytes → replay new_calls new_bytes (settled start) ≡ after_call call more (replay calls bytes (settled start))
state_next call more calls new_calls bytes new_bytes start next counted =
    ap (λ (cs : List Call). replay cs new_bytes (settled start)) next.calls_are
    ∙ ap (λ (xs : List ℕ). replay (calls ++ call ∷ []) xs (settled start)) next.bytes_are
    ∙ replay_next calls call bytes more (settled start) counted

-- the disk after a write
pub written_next : (at : ℕ) (more : List ℕ) (calls new_calls : List Call) (bytes new_bytes start : List ℕ)
    → IsNext (Write at (length more)) more calls new_calls bytes new_bytes → all_taken calls ≡ length bytes
    → replay new_calls new_bytes (settled start) ≡ written at more (replay calls bytes (settled start))
written_next at more calls new_calls bytes new_bytes start next counted =
    state_next (Write at (length more)) more calls new_calls bytes new_bytes start next counted
    ∙ ap (λ (xs : List ℕ). written at xs (replay calls bytes (settled start))) (take_all (length more) more (omega arith))

pub counted_next : (call : Call) (more : List ℕ) (calls new_calls : List Call) (bytes new_bytes : List ℕ) → IsNext call more calls new_calls bytes new_bytes
    → all_taken calls ≡ length bytes → taken call ≡ length more → all_taken new_calls ≡ length new_bytes
counted_next call more calls new_calls bytes new_bytes next counted own =
    ap all_taken next.calls_are ∙ all_taken-push calls call
    ∙ omega (arith, counted, own, length-append bytes more, ap length next.bytes_are)

furthest_end-push : (calls : List Call) (call : Call) → furthest_end (calls ++ call ∷ []) ≡ max (furthest_end calls) (end_of call)
furthest_end-push [] call = omega arith
furthest_end-push (c ∷ calls) call = omega (arith, furthest_end-push calls call)

pub fit_next : (call : Call) (more : List ℕ) (calls new_calls : List Call) (bytes new_bytes : List ℕ) → IsNext call more calls new_calls bytes new_bytes
    → (room : ℕ) → furthest_end calls ≤ room → end_of call ≤ room → furthest_end new_calls ≤ room
fit_next call more calls new_calls bytes new_bytes next room old own =
    omega (arith, ap furthest_end next.calls_are, furthest_end-push calls call, old, own)

pub time_next : (call : Call) (more : List ℕ) (old new : Contents)
    → IsNext call more old.calls.items new.calls.items old.written.items new.written.items → new.start.items ≡ old.start.items
    → Elapses contents_moment contents_since contents_state old new
time_next call more old new next same =
    let disk = settled old.start.items in
    let time : Elapses {D = Calls} (λ past. length past.0) (λ past. LeftSince past.0 past.1 disk) (λ past. replay past.0 past.1 disk)
    (old.calls.items, old.written.items) (new.calls.items, new.written.items) =
    rw (next.calls_are, next.bytes_are) (elapses old.calls.items call old.written.items more disk old.counted) in
    record { later = time.later; nothing_else = rw same time.nothing_else; keeps = rw same time.keeps }

-- what a read gives is something that a crash may leave
pub possible : (calls : List Call) (bytes start : List ℕ)
    → CrashLeaves (replay calls bytes (settled start)) (replay calls bytes (settled start)).now
possible calls bytes start = possible_replay calls bytes (settled start) refl

-- a change that was not made leaves no more than it may
pub leaves_same : (change : Change) (old new : DiskState) → CrashLeaves old old.now → new ≡ old → LeavesAfter change old new
leaves_same change old new may is = subst (λ (d : DiskState). LeavesAfter change old d) (sym is) (record {
  leaves = λ left leaves. keeps_more old.synced change old.changes left (keeps_left old.synced old.changes left leaves);
  possible = may;
})

-- nor does one that was made
pub leaves_written : (at : ℕ) (bytes : List ℕ) (old new : DiskState) → CrashLeaves old old.now → new ≡ after_call (Write at (length bytes)) bytes old
    → LeavesAfter (Wrote at (length bytes)) old new
leaves_written at bytes old new may is =
    let all = take_all (length bytes) bytes (omega arith) in
    subst (λ (d : DiskState). LeavesAfter (Wrote at (length bytes)) old d) (sym is) (record {
      leaves = λ left leaves. subst (λ (xs : List ℕ). CrashLeaves (written at xs old) left) all leaves;
      possible = possible_after (Write at (length bytes)) bytes old may;
    })

pub leaves_cut : (len : ℕ) (old new : DiskState) → CrashLeaves old old.now → new ≡ cut_to len old → LeavesAfter (Cut len) old new
leaves_cut len old new may is = subst (λ (d : DiskState). LeavesAfter (Cut len) old d) (sym is) (record {
  leaves = λ left leaves. leaves;
  possible = possible_after (Shorten len) [] old may;
})

pub leaves_synced : (old new : DiskState) → CrashLeaves old old.now → new ≡ synced_now old → LeavesAfterSync old new
leaves_synced old new may is = subst (λ (d : DiskState). LeavesAfterSync old d) (sym is) (record {
  leaves = λ left leaves. subst (λ (xs : List ℕ). CrashLeaves old xs) (sym leaves) may;
  possible = refl;
})

pub leaves_unsynced : (old new : DiskState) → CrashLeaves old old.now → new ≡ old → LeavesAfterSync old new
leaves_unsynced old new may is = subst (λ (d : DiskState). LeavesAfterSync old d) (sym is) (record {
  leaves = λ left leaves. leaves;
  possible = may;
})

-- one more call is recorded, and its bytes
pub recorded : (call : Call) (more : List ℕ) (calls new_calls : List Call) (bytes new_bytes : List ℕ) → IsNext call more calls new_calls bytes new_bytes
    → length new_calls + length new_bytes ≡ length calls + length bytes + length more + 1
recorded call more calls new_calls bytes new_bytes next =
    omega (arith, ap length next.calls_are, length_push calls call, ap length next.bytes_are, length-append bytes more)

pub records_next : (call : Call) (more : List ℕ) (count : ℕ) (old new : Contents)
    → IsNext call more old.calls.items new.calls.items old.written.items new.written.items → length more ≤ count
    → new.start.items ≡ old.start.items → new.room ≡ old.room → new.log ≡ old.log → Records count old new
records_next call more count old new next few same room log = record {
  room = room;
  log = log;
  recorded = omega (arith, recorded call more old.calls.items new.calls.items old.written.items new.written.items next);
  time = time_next call more old new next same;
}
