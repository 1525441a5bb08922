use Rattle.std.proofs.Common.{ℕ, ◌<◌}
use Rattle.ide_plain.specs.Agreement.{IsSameAt}
use Rattle.ide_plain.proofs.agreement.is_all_same.Given as goal

abbrev pub invariant-loop-node : goal.invariant-loop-node
invariant-loop-node g l =
    (n d : ℕ) → n < l.node → d < l.fn.values.graph.facts → IsSameAt g.P.L.Lattice.algebra l.fn.values l.fn.plain n d
