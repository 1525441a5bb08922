use Rattle.std.proofs.Common.{sym, arith, refl, ap, ◌∙◌}
use Rattle.ide_disk.specs.Disk.{DiskState}
use Rattle.ide_disk.proofs.Next.{state_next, counted_next, fit_next, recorded, records_next}
use Rattle.ide_disk.proofs.contents.Contents.look.Goals as goal

pub invariant_of-self : goal.invariant_of-self
invariant_of-self c =
    let self = c.args.self.now in
    let next = c.note.ensures.next in
    record {
      replayed = self.replayed ∙ ap (λ (d : DiskState). d.now) (sym (state_next _ _ _ _ _ _ self.start.items next self.counted));
      counted = counted_next _ _ _ _ _ _ next self.counted refl;
      fit = fit_next _ _ _ _ _ _ next self.room self.fit (omega arith);
      start_fits = self.start_fits;
      bytes_fit = self.bytes_fit;
      record_fits = omega (arith, recorded _ _ _ _ _ _ next);
      start_room = self.start_room;
      bytes_room = self.bytes_room;
      calls_room = omega arith;
      written_room = omega arith;
    }

pub returns-clause-recorded : goal.returns-clause-recorded
returns-clause-recorded c = records_next _ _ _ _ _ c.note.ensures.next (omega arith) refl refl refl

pub returns-clause-same : goal.returns-clause-same
returns-clause-same c =
    let self = c.args.self.now in
    record { bytes = refl; state = state_next _ _ _ _ _ _ self.start.items c.note.ensures.next self.counted }
