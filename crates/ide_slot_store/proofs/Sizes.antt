-- The sum of what two disks have.
use Rattle.std.proofs.Common.{◌≡◌, ◌∙◌, ◌+◌, ◌-◌, ◌^◌, ℕ, ap, min}

-- told of what is counted, it is that of the disks themselves
pub bytes_are : (sum first second x y : ℕ) → sum ≡ min (first + second) (2 ^ 64 - 1) → first ≡ x → second ≡ y → sum ≡ min (x + y) (2 ^ 64 - 1)
bytes_are sum first second x y is one two =
    is ∙ ap (λ (n : ℕ). min (n + second) (2 ^ 64 - 1)) one ∙ ap (λ (n : ℕ). min (x + n) (2 ^ 64 - 1)) two
