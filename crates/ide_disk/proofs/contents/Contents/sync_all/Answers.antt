use Rattle.std.proofs.Common.{sym, arith, refl, ap, ◌∙◌}
use Rattle.ide_disk.specs.Disk.{DiskState}
use Rattle.ide_disk.proofs.Next.{state_next, counted_next, fit_next, recorded, records_next, possible, leaves_synced, leaves_unsynced}
use Rattle.ide_disk.proofs.contents.Contents.sync_all.Goals as goal

pub invariant_of-self : goal.invariant_of-self
invariant_of-self c =
    let self = c.args.self.now in
    let next = c.note.ensures.next in
    record {
      replayed = self.replayed ∙ ap (λ (d : DiskState). d.now) (sym (state_next _ _ _ _ _ _ self.start.items next self.counted));
      counted = counted_next _ _ _ _ _ _ next self.counted refl;
      fit = fit_next _ _ _ _ _ _ next self.room self.fit (omega arith);
      start_fits = self.start_fits;
      bytes_fit = self.bytes_fit;
      record_fits = omega (arith, recorded _ _ _ _ _ _ next);
      start_room = self.start_room;
      bytes_room = self.bytes_room;
      calls_room = omega arith;
      written_room = omega arith;
    }

pub returns-clause-recorded : goal.returns-clause-recorded
returns-clause-recorded c = records_next _ _ _ _ _ c.note.ensures.next (omega arith) refl refl refl

pub returns-clause-state : goal.returns-clause-state
returns-clause-state c =
    let self = c.args.self.now in
    state_next _ _ _ _ _ _ self.start.items c.note.ensures.next self.counted

pub returns-clause-crash : goal.returns-clause-crash
returns-clause-crash c =
    let self = c.args.self.now in
    leaves_synced _ _ (possible self.calls.items self.written.items self.start.items)
    (state_next _ _ _ _ _ _ self.start.items c.note.ensures.next self.counted)

pub returns-then-not-has_space-clause-crash : goal.returns-then-not-has_space-clause-crash
returns-then-not-has_space-clause-crash c =
    let self = c.args.self.now in
    leaves_unsynced _ _ (possible self.calls.items self.written.items self.start.items) refl
