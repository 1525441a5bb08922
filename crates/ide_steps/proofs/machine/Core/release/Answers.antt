use Rattle.std.proofs.Common.{None}
use Rattle.ide_steps.proofs.States.{state-claimed}
use Rattle.ide_steps.proofs.Nodes.{kept-put}
use Rattle.ide_steps.proofs.machine.Core.release.Goals as goal

pub returns-clause-released : goal.returns-clause-released
returns-clause-released g c =
    rw (← c.self.view_is)
    (state-claimed g.P.F.EdgeFn.edge g.P.Problem.targets c.self.inside.image.table c.release.new.self.table c.self.inside.image.pile c.release.new.self.pile c.args.hand None
    c.release.ensures.table c.release.ensures.pending c.release.ensures.claims)

pub invariant_of-self : goal.invariant_of-self
invariant_of-self g c = λ loaded is.
    let kept = c.self.invariant loaded is in
    (kept.0, kept-put g.P.F.EdgeFn.edge g.P.Problem.targets loaded.graph c.self.inside.image.pile c.release.new.self.pile kept.1 c.args.hand None c.release.ensures.pending tt c.release.ensures.claims)
