use Rattle.ide_store.proofs.Stops.{received_is}
use Rattle.ide_store.proofs.table.TableHalf.has_received.Goals as goal

pub returns : goal.returns
returns g c =
    rw (← c.self.view_is)
    (received_is g.P.F.EdgeFn.edge g.P.F.PartialEq.eq g.met.P.F.EdgeFn.exact g.met.P.F.Eq.laws.refl c.get.result _ c.all_top.result c.unwrap_or-before.result c.meet.result
    c.args.function c.eq.result c.get.ensures c.all_top.ensures c.unwrap_or-before.ensures c.meet.ensures c.eq.ensures)
