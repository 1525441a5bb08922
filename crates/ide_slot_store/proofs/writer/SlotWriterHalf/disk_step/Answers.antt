use Rattle.std.proofs.Common.{◌∙◌, Ok, ap, refl}
use Rattle.ide_slot_store.specs.Half.{makes, rests}
use Rattle.ide_slot_store.proofs.Half.{checkpoint_crashes, quiet_honest, record_crashes, refused_first, stepped, still_crashes}
use Rattle.ide_slot_store.proofs.writer.SlotWriterHalf.disk_step.Goals as goal

-- ---- a call of a checkpoint
pub returns-then-is_checkpoints_turn-clause-steps :
    goal.returns-then-is_checkpoints_turn-clause-steps
returns-then-is_checkpoints_turn-clause-steps g c honest slot other records stored writes =
    makes (c.fill.ensures.calls honest slot other records stored writes)

pub returns-then-is_checkpoints_turn-clause-any_moment :
    goal.returns-then-is_checkpoints_turn-clause-any_moment
returns-then-is_checkpoints_turn-clause-any_moment g c honest =
    checkpoint_crashes c.args.self.now c.fill.new.self (c.if-is_checkpoints_turn.ensures.0 refl) (c.fill.ensures.any_moment honest)

-- ---- a call for a record
pub returns-in-Ok-true-clause-steps : goal.returns-in-Ok-true-clause-steps
returns-in-Ok-true-clause-steps g c honest =
    let old = c.args.self.now in
    let mid = c.begin_next.new.self in
    let quiet = c.begin_next.ensures.quiet in
    stepped old mid c.advance.new.self c.advance.result quiet c.begin_next.ensures.writes
    (c.advance.ensures.calls (quiet_honest old.journal mid.journal quiet honest))

pub returns-in-Ok-true-clause-any_moment : goal.returns-in-Ok-true-clause-any_moment
returns-in-Ok-true-clause-any_moment g c honest =
    let old = c.args.self.now in
    let mid = c.begin_next.new.self in
    let quiet = c.begin_next.ensures.quiet in
    record_crashes old mid c.advance.new.self quiet c.begin_next.ensures.writes
    (c.begin_next.ensures.busy (c.in-Ok-true.is ∙ ap (λ b. Ok b) c.in-Ok-true.field-0-test))
    (c.advance.ensures.any_moment (quiet_honest old.journal mid.journal quiet honest))

-- ---- all is stored
pub returns-in-Ok-false-clause-steps : goal.returns-in-Ok-false-clause-steps
returns-in-Ok-false-clause-steps g c honest slot other records stored writes =
    let is = c.in-Ok-false.is ∙ ap (λ b. Ok b) c.in-Ok-false.field-0-test in
    rests (record {
      all = c.begin_next.ensures.rests is slot other records stored writes;
      no_turn = λ turn. let no = c.if-is_checkpoints_turn.ensures.1 turn in cc (no);
      same = c.begin_next.ensures.same is;
    })

pub returns-in-Ok-false-clause-any_moment : goal.returns-in-Ok-false-clause-any_moment
returns-in-Ok-false-clause-any_moment g c honest =
    let old = c.args.self.now in
    still_crashes old c.begin_next.new.self c.begin_next.ensures.quiet
    (λ left since. g.met.D.Disk.only_now old.journal.current left honest.0 since)
    (λ left since. g.met.D.Disk.only_now old.journal.other left honest.1 since)

-- ---- none is put under way
pub returns-in-Err-clause-steps : goal.returns-in-Err-clause-steps
returns-in-Err-clause-steps g c honest =
    refused_first c.args.self.now c.begin_next.new.self c.in-Err.refused c.in-Err.ensures.refused c.begin_next.ensures.quiet
    c.begin_next.ensures.writes

pub returns-in-Err-clause-any_moment : goal.returns-in-Err-clause-any_moment
returns-in-Err-clause-any_moment g c honest =
    let old = c.args.self.now in
    still_crashes old c.begin_next.new.self c.begin_next.ensures.quiet
    (λ left since. g.met.D.Disk.only_now old.journal.current left honest.0 since)
    (λ left since. g.met.D.Disk.only_now old.journal.other left honest.1 since)
