use Rattle.std.proofs.Common.{◌∙◌, ap, refl}
use Rattle.std.proofs.Math.Logic.{∥∥₁_map}
use Rattle.ide_desks.proofs.Works.{kept_stopped}
use Rattle.ide_desks.proofs.table.TableDesk.stop.Goals as goal

pub invariant_of-self : goal.invariant_of-self
invariant_of-self g c =
    let old = c.args.self.now in
    record {
      named = old.named;
      switched = old.switched;
      counts = record { count = ap (λ t. t.sealed) c.stop.ensures ∙ old.counts.count; handed = old.counts.handed };
      kept = λ told. ∥∥₁_map (old.kept told) (λ kept. kept_stopped _ _ _ _ old.half c.stop.new.self old.seat old.seat kept c.stop.ensures refl);
    }
