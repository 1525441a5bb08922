use Rattle.std.proofs.Common.{List, ℕ, length, sym, arith, refl, ap, ◌∙◌}
use Rattle.ide_disk.specs.Disk.{DiskState, Wrote, put_at}
use Rattle.ide_disk.specs.Kept.{length-put_at, put_at-fits}
use Rattle.ide_disk.proofs.Next.{written_next, state_next, counted_next, fit_next, recorded, records_next, possible, leaves_same, leaves_written}
use Rattle.ide_disk.proofs.contents.Contents.write_over.Goals as goal

pub invariant_of-self : goal.invariant_of-self
invariant_of-self c =
    let self = c.args.self.now in
    let bytes = c.args.bytes.now in
    let next = c.note.ensures.next in
    let state = written_next c.args.at bytes _ _ _ _ self.start.items next self.counted in
    record {
      replayed = c.overwrite.ensures.items ∙ ap (λ (xs : List ℕ). put_at c.args.at bytes xs) self.replayed ∙ ap (λ (d : DiskState). d.now) (sym state);
      counted = counted_next _ _ _ _ _ _ next self.counted refl;
      fit = fit_next _ _ _ _ _ _ next self.room self.fit (omega arith);
      start_fits = self.start_fits;
      bytes_fit = omega (arith, ap length c.overwrite.ensures.items, put_at-fits c.args.at bytes self.bytes.items self.room);
      record_fits = omega (arith, recorded _ _ _ _ _ _ next);
      start_room = self.start_room;
      bytes_room = omega (arith, self.bytes_room, c.overwrite.ensures.capacity);
      calls_room = omega arith;
      written_room = omega arith;
    }

pub returns-clause-recorded : goal.returns-clause-recorded
returns-clause-recorded c = records_next _ _ _ _ _ c.note.ensures.next (omega arith) refl refl refl

pub returns-clause-written : goal.returns-clause-written
returns-clause-written c =
    let self = c.args.self.now in
    record {
      size = ap length c.overwrite.ensures.items ∙ length-put_at c.args.at c.args.bytes.now self.bytes.items c.requires;
      state = written_next c.args.at c.args.bytes.now _ _ _ _ self.start.items c.note.ensures.next self.counted;
    }

pub returns-clause-crash : goal.returns-clause-crash
returns-clause-crash c =
    let self = c.args.self.now in
    leaves_written c.args.at c.args.bytes.now _ _ (possible self.calls.items self.written.items self.start.items)
    (state_next _ _ _ _ _ _ self.start.items c.note.ensures.next self.counted)

pub returns-then-not-has_space-clause-crash : goal.returns-then-not-has_space-clause-crash
returns-then-not-has_space-clause-crash c =
    let self = c.args.self.now in
    leaves_same (Wrote c.args.at (length c.args.bytes.now)) _ _ (possible self.calls.items self.written.items self.start.items) refl

pub returns-then-at-bytes-clause-crash : goal.returns-then-at-bytes-clause-crash
returns-then-at-bytes-clause-crash c =
    let self = c.args.self.now in
    leaves_same (Wrote c.args.at (length c.args.bytes.now)) _ _ (possible self.calls.items self.written.items self.start.items) c.look.ensures.same.state
