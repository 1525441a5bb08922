use Rattle.ide_desks.proofs.Works.{drained, still_counted, still_kept}
use Rattle.ide_desks.proofs.table.TableDesk.drain_some.Goals as goal

pub invariant_of-self : goal.invariant_of-self
invariant_of-self g c =
    let old = c.args.self.now in
    let call = c.drain_some in
    let rest = call.ensures.rest in
    record {
      named = old.named;
      switched = old.switched;
      counts = still_counted old.half call.new.self old.seat rest old.counts;
      kept = still_kept _ _ old.half call.new.self old.seat rest (λ v handed. drained _ _ v handed old.half call.new.self call.ensures.stops) old.kept;
    }
