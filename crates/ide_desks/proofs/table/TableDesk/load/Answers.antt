use Rattle.std.proofs.Common.{◌∙◌, Some, ap}
use Rattle.std.proofs.Math.Logic.{∥∥₁_map}
use Rattle.ide_store.specs.Hands.{Loads}
use Rattle.ide_desks.proofs.Works.{load_spelled, one_counted, one_kept, stayed, still_counted, still_kept}
use Rattle.ide_desks.proofs.table.TableDesk.load.Goals as goal

pub invariant_of-self : goal.invariant_of-self
invariant_of-self g c =
    let old = c.args.self.now in
    let new = c.load.new.self in
    let loads = c.in-Ok.ensures.loads in
    let seat = c.note_last.new.seat in
    let by = Some c.args.client.now.number in
    record {
      named = (old.named.0, ap (λ s. s.board) c.note_last.ensures.seat ∙ old.named.1);
      switched = old.switched;
      counts = one_counted old.half new old.seat seat old.counts loads.entry _ by loads.seals c.note_last.ensures.seat;
      kept = one_kept _ _ old.half new old.seat seat old.counts c.in-Ok.ensures.working loads.entry _ by loads.seals c.note_last.ensures.seat
          (λ place. Loads _ (old.half.version, loads.entry)) (λ place. tt) loads.act old.kept;
    }

pub invariant_of-self-in-Err-1 : goal.invariant_of-self-in-Err-1
invariant_of-self-in-Err-1 g c =
    let old = c.args.self.now in
    let same = c.in-Err.ensures.unchanged in
    record {
      named = old.named;
      switched = old.switched;
      counts = still_counted old.half c.load.new.self old.seat same.rest old.counts;
      kept = still_kept _ _ old.half c.load.new.self old.seat same.rest (λ v handed. stayed _ _ v handed old.half c.load.new.self same) old.kept;
    }

pub returns-in-Ok-clause-command : goal.returns-in-Ok-clause-command
returns-in-Ok-clause-command g c told =
    let old = c.args.self.now in
    ∥∥₁_map (old.kept told) (λ desk. load_spelled _ _ _ _ old.seat _ old.half c.load.new.self _ desk c.in-Ok.ensures.working c.in-Ok.ensures.loads)
