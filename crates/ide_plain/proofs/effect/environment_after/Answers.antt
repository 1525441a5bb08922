use Rattle.std.proofs.Common.{length, rules}
use Rattle.ide_theory.specs.Effect.{effect_at}
use Rattle.ide_plain.specs.Effect.{value_in}
use Rattle.ide_plain.proofs.Found.{values_more}
use Rattle.ide_plain.proofs.effect.environment_after.Goals as goal

pub loop-fact-preserved : goal.loop-fact-preserved
loop-fact-preserved g c = (
  search rules,
  values_more
      (effect_at g.P.L.Lattice.algebra g.P.F.EdgeFn.edge (g.P.Problem.targets c.args.edge.now) (length c.args.environment.now) (value_in g.P.L.Lattice.algebra.top c.args.environment.now))
      c.loop-fact.fact c.loop-fact.after.items c.push.new.self.items c.in_ok-value_after.field-0
      c.loop-fact.invariant.1 c.in_ok-value_after.ensures.effect c.in_ok-push.ensures.items,
)
