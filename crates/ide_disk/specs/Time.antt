-- Moments of a disk, and the counts of its calls and failures.
use Rattle.std.specs.Prelude.{◌⊎◌, ℕ, ◌+◌, ◌-◌, ◌^◌, ◌≤◌, min, List, Result, Ok, Err}
use Rattle.ide_disk.specs.Disk.{DiskState, CrashLeaves}

-- time goes on: a crash since some moment might have left what it might have left before, or what it may leave now
pub record Elapses {D : Type 0} (moment : D → ℕ) (left_since : D → ℕ → List ℕ → Type 0) (state : D → DiskState) (old new : D) : Type 0 where
  pub later : moment old ≤ moment new
  pub nothing_else : (t : ℕ) (left : List ℕ) → t ≤ moment old → left_since new t left → left_since old t left ⊎ CrashLeaves (state new) left
  pub keeps : (t : ℕ) (left : List ℕ) → t ≤ moment old → left_since old t left → left_since new t left

-- one more, or the largest number of 64 bits, at which a count stays
abbrev pub next_count : ℕ → ℕ
next_count count = min (count + 1) (2 ^ 64 - 1)

-- the count of failures after a call: one more where it failed
abbrev pub failures_after : {T E : Type 0} → Result T E → ℕ → ℕ
failures_after (Ok value) failures = failures
failures_after (Err fault) failures = next_count failures
