use Rattle.ide_desks.proofs.Works.{finished, still_counted, still_kept}
use Rattle.ide_desks.proofs.table.TableDesk.finish.Goals as goal

pub invariant_of-self : goal.invariant_of-self
invariant_of-self g c =
    let old = c.args.self.now in
    let call = c.finish in
    let rest = call.ensures.rest in
    record {
      named = old.named;
      switched = old.switched;
      counts = still_counted old.half call.new.self old.seat rest old.counts;
      kept = still_kept _ _ old.half call.new.self old.seat rest
          (λ v handed. finished _ _ v handed old.half call.new.self call.result c.args.hand call.ensures.ends call.ensures.unchanged)
          old.kept;
    }
