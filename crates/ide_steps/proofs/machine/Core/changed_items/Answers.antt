use Rattle.ide_steps.proofs.Left.{changed-in-order, few-left}
use Rattle.ide_steps.proofs.machine.Core.changed_items.Goals as goal

pub returns-clause-items : goal.returns-clause-items
returns-clause-items g c =
    rw (← c.self.view_is)
    (changed-in-order g.P.F.PartialEq.eq g.P.F.EdgeFn.edge _ g.met.P.F.EdgeFn.exact g.met.P.F.Eq.laws.refl c.in_ok-items.items
    c.in_ok-items.ensures.once c.in_ok-items.ensures.same c.in_ok-items.ensures.sorted)

pub returns-clause-few : goal.returns-clause-few
returns-clause-few g c =
    rw (← c.self.view_is)
    (few-left g.P.F.PartialEq.eq c.self.inside.image c.in_ok-items.items c.in_ok-items.ensures.same)
