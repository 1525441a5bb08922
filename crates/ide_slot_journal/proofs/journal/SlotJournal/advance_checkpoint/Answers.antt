use Rattle.std.proofs.Common.{refl}
use Rattle.ide_slot_journal.proofs.Both.{call_is}
use Rattle.ide_slot_journal.proofs.Checkpoints.{failed_fill, good_fill, left_in_fill, moves_from, sides_after}
use Rattle.ide_slot_journal.proofs.journal.SlotJournal.advance_checkpoint.Goals as goal

pub returns-in-Ok-clause-steps : goal.returns-in-Ok-clause-steps
returns-in-Ok-clause-steps g c honest slot next other stands =
    let old = c.args.self.now in
    let k = c.fill_on.ensures.next in
    let made = call_is g.D.Disk _ _ _ old.other _ _ refl c.fill_on.ensures.called c.in-Ok.ensures.call in
    good_fill slot next other old c.fill_on.new.self c.fill_on.result c.requires.turn
    (moves_from old _ c.fill_on.new.self c.fill_on.result refl refl refl refl refl refl refl refl refl c.fill_on.ensures.moves)
    (record { tag = k.tag; count = k.count; next = k.next; tail = k.tail }) (made.good honest.1) stands

pub returns-in-Ok-clause-any_moment : goal.returns-in-Ok-clause-any_moment
returns-in-Ok-clause-any_moment g c honest slot next other stands =
    let old = c.args.self.now in
    let new = c.fill_on.new.self in
    let made = call_is g.D.Disk _ _ _ old.other _ _ refl c.fill_on.ensures.called c.in-Ok.ensures.call in
    left_in_fill slot next other old _ _ c.requires.turn
    (sides_after old new c.fill_on.result
    (moves_from old _ new c.fill_on.result refl refl refl refl refl refl refl refl refl c.fill_on.ensures.moves))
    (λ left since. g.met.D.Disk.only_now old.current left honest.0 since)
    (λ left since. g.met.D.Disk.only_now old.other left honest.1 since)
    (made.counted.time honest.1) (made.leaves honest.1) stands

pub returns-in-Err-clause-steps : goal.returns-in-Err-clause-steps
returns-in-Err-clause-steps g c honest slot next other stands =
    failed_fill slot next other c.args.self.now _ c.requires.turn refl refl (c.in-Err.ensures.call.leaves honest.1) stands

pub returns-in-Err-clause-any_moment : goal.returns-in-Err-clause-any_moment
returns-in-Err-clause-any_moment g c honest slot next other stands =
    let old = c.args.self.now in
    left_in_fill slot next other old c.call.new.disk _ c.requires.turn refl
    (λ left since. g.met.D.Disk.only_now old.current left honest.0 since)
    (λ left since. g.met.D.Disk.only_now old.other left honest.1 since)
    (c.in-Err.ensures.call.counted.time honest.1) (c.in-Err.ensures.call.leaves honest.1) stands
