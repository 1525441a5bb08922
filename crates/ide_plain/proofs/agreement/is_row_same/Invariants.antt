use Rattle.std.proofs.Common.{ℕ, ◌<◌}
use Rattle.ide_plain.specs.Agreement.{IsSameAt}
use Rattle.ide_plain.proofs.agreement.is_row_same.Given as goal

abbrev pub invariant-loop-fact : goal.invariant-loop-fact
invariant-loop-fact g l =
    (d : ℕ) → d < l.fact → IsSameAt g.P.L.Lattice.algebra l.fn.values l.fn.plain l.fn.node d
