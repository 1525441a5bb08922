use Rattle.ide_steps.specs.Core.{AllStandIn}
use Rattle.ide_steps.proofs.Nodes.{of-loaded, work-inside}
use Rattle.ide_steps.proofs.machine.Core.parts_are_inside.Goals as goal

pub returns : goal.returns
returns g c =
    rw (← c.self.view_is)
    (λ work current. of-loaded _ c.self.inside.loaded c.self.invariant (λ l. l.graph) (λ graph. AllStandIn graph work.parts)
    (λ l kept.
    work-inside g.P.F.EdgeFn.edge g.P.Problem.targets l.graph c.self.inside.image.pile c.args.hand work work.task kept.1 current.claim current.parts))
