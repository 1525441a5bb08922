use Rattle.std.proofs.Common.{sym, subst}
use Rattle.ide_steps.specs.Core.{AreKeysKept}
use Rattle.ide_steps.proofs.machine.Core.take_changes.Goals as goal

pub invariant_of-self : goal.invariant_of-self
invariant_of-self g c = λ loaded is.
    let kept = c.self.invariant loaded is in
    (kept.0, subst (AreKeysKept g.P.F.EdgeFn.edge g.P.Problem.targets loaded.graph) (sym c.take_changes.ensures.pile) kept.1)
