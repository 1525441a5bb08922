use Rattle.std.proofs.Common.{refl}
use Rattle.ide_tasks.proofs.Told.{told-push}
use Rattle.ide_tasks.proofs.source_list.SourceList.of.Goals as goal

pub loop-source-preserved : goal.loop-source-preserved
loop-source-preserved g c =
    let stay = c.in_ok-function.ensures.stay in
    told-push g.F.EdgeFn.edge.all_top c.loop-source.functions.items c.place_of.new.functions.items c.loop-source.places.items c.push.new.self.items c.args.sources.now
    c.loop-source.source-index c.source-item.result _ c.loop-source.invariant c.loop-source-test.true c.source-item.is stay.0 stay.1 c.in_ok-function.ensures.there
    refl refl refl c.in_ok-push.ensures.items
