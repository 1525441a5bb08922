use Rattle.std.proofs.Common.{List, ℕ, ap, refl, rules}
use Rattle.ide_slots.specs.TwoCalls.{record_call}
use Rattle.ide_slot_journal.specs.Stages.{phase_from}
use Rattle.ide_slot_journal.proofs.Both.{call_is}
use Rattle.ide_slot_journal.proofs.Records.{failed_step, good_step, left_in_step}
use Rattle.ide_slot_journal.proofs.journal.SlotJournal.advance.Goals as goal

pub returns-in-Ok-clause-steps : goal.returns-in-Ok-clause-steps
returns-in-Ok-clause-steps g c honest slot entry other stands =
    let old = c.args.self.now in
    let r = c.reach_phase.ensures.phase in
    let k = c.reach_phase.ensures.other in
    let made = call_is g.D.Disk _ _ _ old.current _ _ (ap (λ (tail : List ℕ). record_call (phase_from old.stage) old.gate tail) c.deref.ensures.value)
    c.reach_phase.ensures.current c.in-Ok.ensures.call in
    good_step slot entry other old c.reach_phase.new.self c.reach_phase.result (search rules) c.requires.turn
    (record { is = r.is; stage = r.stage; gate = r.gate; count = r.count; end = r.end; next = r.next; tail = r.tail })
    (record { side = k.side; generation = k.generation; base = k.base; version = k.version; tag = k.tag; filler = k.filler; other = k.other })
    (made.good honest.0) stands

pub returns-in-Ok-clause-any_moment : goal.returns-in-Ok-clause-any_moment
returns-in-Ok-clause-any_moment g c honest slot entry other stands =
    let old = c.args.self.now in
    let k = c.reach_phase.ensures.other in
    let made = call_is g.D.Disk _ _ _ old.current _ _ (ap (λ (tail : List ℕ). record_call (phase_from old.stage) old.gate tail) c.deref.ensures.value)
    c.reach_phase.ensures.current c.in-Ok.ensures.call in
    left_in_step slot entry other old c.reach_phase.new.self.side c.reach_phase.new.self.current c.reach_phase.new.self.other (search rules) c.requires.turn k.side k.other
    (λ left since. g.met.D.Disk.only_now old.current left honest.0 since)
    (λ left since. g.met.D.Disk.only_now old.other left honest.1 since)
    (made.counted.time honest.0) (made.leaves honest.0) stands

pub returns-in-Err-clause-steps : goal.returns-in-Err-clause-steps
returns-in-Err-clause-steps g c honest slot entry other stands =
    let old = c.args.self.now in
    let made = call_is g.D.Disk _ _ _ old.current _ _ (ap (λ (tail : List ℕ). record_call (phase_from old.stage) old.gate tail) c.deref.ensures.value)
    refl c.in-Err.ensures.call in
    failed_step slot entry other old _ (search rules) c.requires.turn refl refl (made.leaves honest.0) stands

pub returns-in-Err-clause-any_moment : goal.returns-in-Err-clause-any_moment
returns-in-Err-clause-any_moment g c honest slot entry other stands =
    let old = c.args.self.now in
    let made = call_is g.D.Disk _ _ _ old.current _ _ (ap (λ (tail : List ℕ). record_call (phase_from old.stage) old.gate tail) c.deref.ensures.value)
    refl c.in-Err.ensures.call in
    left_in_step slot entry other old old.side c.call_record.new.disk old.other (search rules) c.requires.turn refl refl
    (λ left since. g.met.D.Disk.only_now old.current left honest.0 since)
    (λ left since. g.met.D.Disk.only_now old.other left honest.1 since)
    (made.counted.time honest.0) (made.leaves honest.0) stands
