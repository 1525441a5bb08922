-- Sums modulo 2^64, an opaque word: proofs rest on these lemmas alone.
use Rattle.std.specs.Prelude.{◌≡◌, ◌≢◌, ℕ, ◌+◌, ◌-◌, ◌%◌, ◌^◌, ◌<◌}
use Rattle.std.proofs.Common.{arith}

-- a sum modulo 2^64
unfoldable pub sum_of : ℕ → ℕ → ℕ
sum_of a b = (a + b) % 2 ^ 64

-- the number that gives `k` where `c` is added
unfoldable pub gap_of : ℕ → ℕ → ℕ
gap_of c k = (k + 2 ^ 64 - c) % 2 ^ 64

pub sum-fits : (a b : ℕ) → sum_of a b < 2 ^ 64
unfolding sum_of
sum-fits a b = omega (arith)

pub sum-assoc : (a b c : ℕ) → sum_of (sum_of a b) c ≡ sum_of a (sum_of b c)
unfolding sum_of
sum-assoc a b c = omega (arith)

pub sum-zero : (a : ℕ) → a < 2 ^ 64 → sum_of a 0 ≡ a
unfolding sum_of
sum-zero a h = omega (arith)

pub sum-cancel-left : (a b c : ℕ) → b < 2 ^ 64 → c < 2 ^ 64 → sum_of a b ≡ sum_of a c → b ≡ c
unfolding sum_of
sum-cancel-left a b c p q h = omega (arith)

pub sum-cancel-right : (a b c : ℕ) → a < 2 ^ 64 → b < 2 ^ 64 → sum_of a c ≡ sum_of b c → a ≡ b
unfolding sum_of
sum-cancel-right a b c p q h = omega (arith)

pub sum-moves : (c : ℕ) → sum_of 0 c ≢ sum_of 1 c
unfolding sum_of
sum-moves c h = omega (arith)

pub gap-fits : (c k : ℕ) → gap_of c k < 2 ^ 64
unfolding gap_of
gap-fits c k = omega (arith)

pub sum-gap : (c k : ℕ) → c < 2 ^ 64 → k < 2 ^ 64 → sum_of (gap_of c k) c ≡ k
unfolding sum_of gap_of
sum-gap c k p q = omega (arith)

-- what adds to zero with `c`
unfoldable pub negated_of : ℕ → ℕ
negated_of c = (2 ^ 64 - c) % 2 ^ 64

pub negated-fits : (c : ℕ) → negated_of c < 2 ^ 64
unfolding negated_of
negated-fits c = omega (arith)

pub negated-only : (c n : ℕ) → c < 2 ^ 64 → n < 2 ^ 64 → (n + c) % 2 ^ 64 ≡ 0 → n ≡ negated_of c
unfolding negated_of
negated-only c n p q h = omega (arith, p, q, h)
