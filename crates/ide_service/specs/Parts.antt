-- What hands do of a work.
use Rattle.std.specs.Prelude.{◌≡◌, ◌≤◌, ℕ, ◌+◌}
use Rattle.ide_tasks.specs.Work.{WorkData}

-- the work, with so many parts more done
abbrev pub with_more_done : {F : Type 0} → WorkData F → ℕ → WorkData F
with_more_done work count = record work { done = work.done + count }

-- some of its next parts are done, so many at most, and it counts them
abbrev pub IsFurther : {F : Type 0} → (most : ℕ) → (old new : WorkData F) → Type 0
IsFurther most old new = (count : ℕ) × (count ≤ most) × (new ≡ with_more_done old count)
