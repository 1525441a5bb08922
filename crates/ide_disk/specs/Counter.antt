-- Which calls of a disk in memory are told to fail.
use Rattle.std.specs.Prelude.{◌≡◌, ◌⊎◌, ℕ, ◌≤◌, Some}
use Rattle.ide_disk.specs.declared.counter.Counter.{Counter}

-- the call of that number was told to fail alone, or with all later ones
abbrev pub IsToldToFail : Counter → ℕ → Type 0
IsToldToFail counter call = (counter.fail_at ≡ Some call) ⊎ ((first : ℕ) × (counter.stop_at ≡ Some first) × (first ≤ call))
