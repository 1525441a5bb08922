use Rattle.std.proofs.Common.{◌≡◌, ℕ, ◌≤◌, None, length, get_or}
use Rattle.ide_image.proofs.claims.grow.Given as goal

abbrev pub invariant-loop : goal.invariant-loop
invariant-loop g l = (l.counter ≤ length l.claims.items) × ((h : ℕ) → get_or l.claims.items h None ≡ get_or l.fn.claims.items h None)
