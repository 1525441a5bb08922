use Rattle.std.proofs.Common.{◌≡◌, ◌<◌, ℕ, length, get_or}
use Rattle.ide_values.proofs.rows.blank.Given as goal

-- the first values are tops
abbrev pub invariant-loop-place : goal.invariant-loop-place
invariant-loop-place g l = record {
  count : length l.values ≡ length l.fn.values;
  tops : (q : ℕ) → q < l.place → get_or l.values q g.L.Lattice.algebra.top ≡ g.L.Lattice.algebra.top;
}
