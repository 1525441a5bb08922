use Rattle.ide_steps.proofs.Nodes.{kept-released}
use Rattle.ide_steps.proofs.machine.Core.release_all.Goals as goal

pub invariant_of-self : goal.invariant_of-self
invariant_of-self g c = λ loaded is.
    let kept = c.self.invariant loaded is in
    (kept.0, kept-released g.P.F.EdgeFn.edge g.P.Problem.targets loaded.graph c.self.inside.image.pile c.release_all.new.self.pile kept.1 c.release_all.ensures.pending c.release_all.ensures.claims)
