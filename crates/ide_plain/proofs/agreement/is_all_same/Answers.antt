use Rattle.std.proofs.Common.{arith, inl, inr, subst, sym}
use Rattle.ide_lattice.specs.Meets.{last-or}
use Rattle.ide_plain.specs.Agreement.{IsSameAt}
use Rattle.ide_plain.proofs.agreement.is_all_same.Goals as goal

pub loop-node-preserved : goal.loop-node-preserved
loop-node-preserved g c = λ n d less within.
    elim (last-or n c.loop-node.node (omega (arith, less))) [
      | inl before ↦ c.loop-node.invariant n d before within
      | inr same ↦
          subst (λ m. IsSameAt g.P.L.Lattice.algebra c.args.values.now c.args.plain.now m d) (sym same)
          (c.is_row_same.ensures c.if-not-is_row_same.false d within)
    ]
