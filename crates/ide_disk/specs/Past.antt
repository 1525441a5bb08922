-- The disk after one more recorded call, and what a crash may have left since an earlier one.
use Rattle.std.specs.Prelude.{◌≡◌, ℕ, ◌+◌, ◌≤◌, List, [], ◌∷◌, ◌++◌, length, take, drop, refl}
use Rattle.std.proofs.Common.{zero, suc, arith, inl, inr, sym, subst, ap, ◌∙◌}
use Rattle.std.proofs.lemmas.Bool.{cases_lt}
use Rattle.std.proofs.lemmas.List.{length-drop, length_push, drop-drop, drop_at, take_all, take-append-le, drop-append-le}
use Rattle.ide_disk.specs.Disk.{DiskState, CrashLeaves}
use Rattle.ide_disk.specs.Record.{taken, all_taken, after_call, replay, LeftSince}
use Rattle.ide_disk.specs.Time.{Elapses}
use Rattle.ide_disk.specs.declared.call.Call.{Call}
use Rattle.ide_disk.specs.declared.call.Call.TheVariants.{Look, Write, Shorten, Sync}

pub all_taken-push : (calls : List Call) (call : Call) → all_taken (calls ++ call ∷ []) ≡ all_taken calls + taken call
all_taken-push [] call = omega arith
all_taken-push (c ∷ calls) call = omega (arith, all_taken-push calls call)

all_taken-take : (calls : List Call) (k : ℕ) → all_taken (take k calls) ≤ all_taken calls
all_taken-take [] zero = omega arith
all_taken-take [] (suc k) = omega arith
all_taken-take (c ∷ calls) zero = omega arith
all_taken-take (c ∷ calls) (suc k) = omega (arith, all_taken-take calls k)

-- a call looks at its own bytes alone
after_call-more : (call : Call) (bytes more : List ℕ) (disk : DiskState) → taken call ≤ length bytes
    → after_call call (bytes ++ more) disk ≡ after_call call bytes disk
after_call-more Look bytes more disk enough = refl
after_call-more (Write at count) bytes more disk enough = rw take-append-le
after_call-more (Shorten len) bytes more disk enough = refl
after_call-more Sync bytes more disk enough = refl

-- and so do calls
pub replay-more : (calls : List Call) (bytes more : List ℕ) (disk : DiskState) → all_taken calls ≤ length bytes
    → replay calls (bytes ++ more) disk ≡ replay calls bytes disk
replay-more [] bytes more disk enough = refl
replay-more (call ∷ calls) bytes more disk enough =
    let first : taken call ≤ length bytes = omega arith in
    ap (λ (d : DiskState). replay calls (drop (taken call) (bytes ++ more)) d) (after_call-more call bytes more disk first)
    ∙ ap (λ (xs : List ℕ). replay calls xs (after_call call bytes disk)) (drop-append-le (taken call) bytes more first)
    ∙ replay-more calls (drop (taken call) bytes) more (after_call call bytes disk) (omega (arith, length-drop (taken call) bytes))

-- the last call comes after the others
pub replay-push : (calls : List Call) (call : Call) (bytes : List ℕ) (disk : DiskState)
    → replay (calls ++ call ∷ []) bytes disk ≡ after_call call (drop (all_taken calls) bytes) (replay calls bytes disk)
replay-push [] call bytes disk = refl
replay-push (c ∷ calls) call bytes disk =
    replay-push calls call (drop (taken c) bytes) (after_call c bytes disk)
    ∙ ap (λ (xs : List ℕ). after_call call xs (replay calls (drop (taken c) bytes) (after_call c bytes disk))) (drop-drop (all_taken calls) (taken c) bytes)

-- the disk after one more call, whose bytes are recorded behind the others
pub replay_next : (calls : List Call) (call : Call) (bytes more : List ℕ) (disk : DiskState) → all_taken calls ≡ length bytes
    → replay (calls ++ call ∷ []) (bytes ++ more) disk ≡ after_call call more (replay calls bytes disk)
replay_next calls call bytes more disk all =
    replay-push calls call (bytes ++ more) disk
    ∙ ap (λ (xs : List ℕ). after_call call xs (replay calls (bytes ++ more) disk)) (drop_at bytes more (all_taken calls) (sym all))
    ∙ ap (λ (d : DiskState). after_call call more d) (replay-more calls bytes more disk (omega (arith, all)))

-- what a crash now may leave is left since each moment up to now
pub counts_now : (calls : List Call) (bytes : List ℕ) (disk : DiskState) (t : ℕ) (left : List ℕ) → t ≤ length calls
    → CrashLeaves (replay calls bytes disk) left → LeftSince calls bytes disk t left
counts_now calls bytes disk t left early leaves =
    (length calls, early, omega arith, subst (λ (cs : List Call). CrashLeaves (replay cs bytes disk) left) (sym (take_all (length calls) calls (omega arith))) leaves)

-- what is left since now, a crash now may leave
pub only_now : (calls : List Call) (bytes : List ℕ) (disk : DiskState) (left : List ℕ) → LeftSince calls bytes disk (length calls) left
    → CrashLeaves (replay calls bytes disk) left
only_now calls bytes disk left (k, late, within, leaves) =
    subst (λ (cs : List Call). CrashLeaves (replay cs bytes disk) left) (take_all k calls late) leaves

-- what an earlier crash may have left stays the same as calls are recorded
earlier : (calls more_calls : List Call) (bytes more : List ℕ) (disk : DiskState) (k : ℕ) → k ≤ length calls → all_taken calls ≡ length bytes
    → replay (take k (calls ++ more_calls)) (bytes ++ more) disk ≡ replay (take k calls) bytes disk
earlier calls more_calls bytes more disk k within all =
    ap (λ (cs : List Call). replay cs (bytes ++ more) disk) (take-append-le k calls more_calls within)
    ∙ replay-more (take k calls) bytes more disk (omega (arith, all_taken-take calls k, all))

-- calls, and the bytes of those that wrote
abbrev pub Calls : Type 0
Calls = List Call × List ℕ

-- with one more call recorded, time goes on
pub elapses : (calls : List Call) (call : Call) (bytes more : List ℕ) (disk : DiskState) → all_taken calls ≡ length bytes
    → Elapses {D = Calls} (λ past. length past.0) (λ past. LeftSince past.0 past.1 disk) (λ past. replay past.0 past.1 disk)
    (calls, bytes) (calls ++ call ∷ [], bytes ++ more)
elapses calls call bytes more disk all = record {
  later = omega (arith, length_push calls call);
  nothing_else = λ t left early (k, late, within, leaves). elim (cases_lt (length calls) k) [
    | inr before ↦ inl (k, late, before, subst (λ (d : DiskState). CrashLeaves d left) (earlier calls (call ∷ []) bytes more disk k before all) leaves)
    | inl behind ↦ inr (subst (λ (cs : List Call). CrashLeaves (replay cs (bytes ++ more) disk) left)
        (take_all k (calls ++ call ∷ []) (omega (arith, length_push calls call, behind))) leaves)
  ];
  keeps = λ t left early (k, late, within, leaves).
      (k, late, omega (arith, length_push calls call), subst (λ (d : DiskState). CrashLeaves d left) (sym (earlier calls (call ∷ []) bytes more disk k within all)) leaves);
}
