use Rattle.std.proofs.Common.{◌≡◌, length, map}
use Rattle.std.specs.List.{range_with_len}
use Rattle.ide_theory.specs.Effect.{effect_at}
use Rattle.ide_plain.specs.Effect.{value_in}
use Rattle.ide_plain.proofs.effect.environment_after.Given as goal

abbrev pub invariant-loop-fact : goal.invariant-loop-fact
invariant-loop-fact g l =
    (length l.after.items ≡ l.fact)
    × (l.after.items ≡ map (effect_at g.P.L.Lattice.algebra g.P.F.EdgeFn.edge (g.P.Problem.targets l.fn.edge) (length l.fn.environment) (value_in g.P.L.Lattice.algebra.top l.fn.environment)) (range_with_len 0 l.fact))
