use Rattle.std.proofs.Common.{◌≡◌}
use Rattle.ide_theory.specs.Effect.{effect_at}
use Rattle.ide_plain.specs.Effect.{value_in}
use Rattle.ide_plain.proofs.effect.value_after.Given as goal

abbrev pub invariant-loop-index : goal.invariant-loop-index
invariant-loop-index g l =
    l.value ≡ effect_at g.P.L.Lattice.algebra g.P.F.EdgeFn.edge (g.P.Problem.targets l.fn.edge) l.index (value_in g.P.L.Lattice.algebra.top l.fn.environment) l.fn.fact
