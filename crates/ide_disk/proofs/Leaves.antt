-- One step through the recorded calls, as a crash goes through them.
use Rattle.std.specs.Prelude.{◌≡◌, ℕ, ◌+◌, ◌-◌, ◌≤◌, cond, List, [], ◌∷◌, length, take, drop, replicate, ◌/◌, refl}
use Rattle.std.proofs.Common.{arith, sym, ap, ◌∙◌}
use Rattle.std.proofs.lemmas.List.{drop-drop, length-take, length-append, length-replicate}
use Rattle.ide_disk.specs.Disk.{put_at}
use Rattle.ide_disk.specs.Kept.{put_at-fits}
use Rattle.ide_disk.specs.Leaving.{is_sync, left_of_write, left_of_cut, left_of_call, leave_before, left_after, sync_count}
use Rattle.ide_disk.specs.Record.{taken, all_taken, end_of, furthest_end}
use Rattle.ide_disk.specs.declared.call.Call.{Call}
use Rattle.ide_disk.specs.declared.call.Call.TheVariants.{Look, Write, Shorten, Sync}
use Rattle.ide_disk.specs.declared.leave.Leave.{Leave}
use Rattle.ide_disk.specs.declared.leave.Leave.TheVariants.{Old, New, Half, Fill}

pub sync_count-cons : (call : Call) (calls : List Call) → sync_count (call ∷ calls) ≡ cond (is_sync call) (1 + sync_count calls) (sync_count calls)
sync_count-cons Look calls = refl
sync_count-cons (Write at count) calls = refl
sync_count-cons (Shorten len) calls = refl
sync_count-cons Sync calls = omega arith

-- so far the calls up to index i have left these bytes
pub record IsLeaving (leave : Leave) (calls : List Call) (written start : List ℕ) (i from syncs room : ℕ) (bytes : List ℕ) : Type 0 where
  pub counted : from + all_taken (drop i calls) ≡ length written
  pub syncs_left : syncs ≡ sync_count (drop i calls)
  pub fit : furthest_end (drop i calls) ≤ room
  pub left : left_after leave (drop i calls) (drop from written) bytes ≡ left_after leave calls written start

-- what is left, where a call comes first
pub left_first : (leave : Leave) (calls rest : List Call) (call : Call) (written bytes : List ℕ) → calls ≡ call ∷ rest
    → left_after leave calls written bytes ≡ left_after leave rest (drop (taken call) written) (left_of_call (leave_before (sync_count rest) leave) call written bytes)
left_first leave calls rest call written bytes is = ap (λ (cs : List Call). left_after leave cs written bytes) is

pub leaving_step : (leave : Leave) (calls : List Call) (written start : List ℕ) (i from syncs room : ℕ) (bytes : List ℕ)
    → (call : Call) → drop i calls ≡ call ∷ drop (i + 1) calls → (new_syncs new_room : ℕ) → sync_count (drop (i + 1) calls) ≡ new_syncs → room ≤ new_room
    → IsLeaving leave calls written start i from syncs room bytes
    → IsLeaving leave calls written start (i + 1) (from + taken call) new_syncs new_room (left_of_call (leave_before new_syncs leave) call (drop from written) bytes)
leaving_step leave calls written start i from syncs room bytes call first new_syncs new_room syncs_are more before = record {
  counted = omega (arith, before.counted, ap all_taken first);
  syncs_left = sym syncs_are;
  fit = omega (arith, before.fit, ap furthest_end first, more);
  left =
      ap (λ (xs : List ℕ). left_after leave (drop (i + 1) calls) xs (left_of_call (leave_before new_syncs leave) call (drop from written) bytes)) (sym (drop-drop (taken call) from written))
      ∙ ap (λ (n : ℕ). left_after leave (drop (i + 1) calls) (drop (taken call) (drop from written)) (left_of_call (leave_before n leave) call (drop from written) bytes)) (sym syncs_are)
      ∙ sym (left_first leave (drop i calls) (drop (i + 1) calls) call (drop from written) bytes first)
      ∙ before.left;
}

-- what is left of a write that ends within the room
left_of_write-fits : (leave : Leave) (at : ℕ) (bytes old : List ℕ) (room : ℕ) → at + length bytes ≤ room → length old ≤ room
    → length (left_of_write leave at bytes old) ≤ room
left_of_write-fits Old at bytes old room new_fit old_fit = old_fit
left_of_write-fits New at bytes old room new_fit old_fit = put_at-fits at bytes old room new_fit old_fit
left_of_write-fits Half at bytes old room new_fit old_fit =
    let half = put_at at (take (length bytes / 2) bytes) old in
    let half_fits : length half ≤ room = put_at-fits at (take (length bytes / 2) bytes) old room (omega (arith, length-take (length bytes / 2) bytes)) old_fit in
    omega (arith, length-append half (replicate (at + length bytes - length half) 0), length-replicate {A = ℕ} (at + length bytes - length half) 0, half_fits)
left_of_write-fits (Fill byte) at bytes old room new_fit old_fit =
    put_at-fits at (replicate (length bytes) byte) old room (omega (arith, length-replicate (length bytes) byte)) old_fit

left_of_cut-fits : (leave : Leave) (len : ℕ) (old : List ℕ) (room : ℕ) → length old ≤ room → length (left_of_cut leave len old) ≤ room
left_of_cut-fits Old len old room fits = fits
left_of_cut-fits New len old room fits = omega (arith, length-take len old)
left_of_cut-fits Half len old room fits = omega (arith, length-take len old)
left_of_cut-fits (Fill byte) len old room fits = omega (arith, length-take len old)

left_of_call-fits : (leave : Leave) (call : Call) (bytes old : List ℕ) (room : ℕ) → end_of call ≤ room → length old ≤ room
    → length (left_of_call leave call bytes old) ≤ room
left_of_call-fits leave Look bytes old room new_fits fits = fits
left_of_call-fits leave (Write at count) bytes old room new_fits fits =
    left_of_write-fits leave at (take count bytes) old room (omega (arith, length-take count bytes)) fits
left_of_call-fits leave (Shorten len) bytes old room new_fits fits = left_of_cut-fits leave len old room fits
left_of_call-fits leave Sync bytes old room new_fits fits = fits

-- what is left of calls that end within the room
pub left_after-fits : (leave : Leave) (calls : List Call) (bytes old : List ℕ) (room : ℕ) → furthest_end calls ≤ room → length old ≤ room
    → length (left_after leave calls bytes old) ≤ room
left_after-fits leave [] bytes old room new_fit fits = fits
left_after-fits leave (call ∷ calls) bytes old room new_fit fits =
    left_after-fits leave calls (drop (taken call) bytes) (left_of_call (leave_before (sync_count calls) leave) call bytes old) room (omega (arith, new_fit))
    (left_of_call-fits (leave_before (sync_count calls) leave) call bytes old room (omega (arith, new_fit)) fits)
