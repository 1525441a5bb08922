use Rattle.ide_slots.specs.declared.side.Side.TheVariants.{First, Second}
use Rattle.ide_slot_journal.specs.Opening.{now_of}
use Rattle.ide_slot_journal.proofs.Openings.{first_chosen, not_chosen, not_looked, second_chosen}
use Rattle.ide_slot_journal.proofs.opening.choose.Goals as goal

pub returns-in-Err-clause-refused : goal.returns-in-Err-clause-refused
returns-in-Err-clause-refused g c first second =
    not_looked c.args.tag (now_of g.D.Disk c.args.a.now c.args.b.now) First c.in-Err.refused (c.in-Err.ensures.refused first)

pub returns-in-Err-look-clause-refused : goal.returns-in-Err-look-clause-refused
returns-in-Err-look-clause-refused g c first second =
    not_looked c.args.tag (now_of g.D.Disk c.args.a.now c.args.b.now) Second c.in-Err-look.refused (c.in-Err-look.ensures.refused second)

pub returns-in-Err-choose_slot-clause-refused : goal.returns-in-Err-choose_slot-clause-refused
returns-in-Err-choose_slot-clause-refused g c first second =
    not_chosen c.args.tag (now_of g.D.Disk c.args.a.now c.args.b.now) c.in-Ok.first c.in-Ok-look.second c.in-Err-choose_slot.refused
    (c.in-Ok.ensures.front first) (c.in-Ok-look.ensures.front second) c.in-Err-choose_slot.ensures.refused

pub returns-in-First-clause-chosen : goal.returns-in-First-clause-chosen
returns-in-First-clause-chosen g c first second =
    first_chosen c.args.tag (now_of g.D.Disk c.args.a.now c.args.b.now) c.in-Ok.first c.in-Ok-look.second c.in-Ok-choose_slot.found
    (c.in-Ok.ensures.front first) (c.in-Ok-look.ensures.front second) c.in-Ok-choose_slot.ensures.current c.in-Ok-choose_slot.ensures.tag c.in-First.is

pub returns-in-Second-clause-chosen : goal.returns-in-Second-clause-chosen
returns-in-Second-clause-chosen g c first second =
    second_chosen c.args.tag (now_of g.D.Disk c.args.a.now c.args.b.now) c.in-Ok.first c.in-Ok-look.second c.in-Ok-choose_slot.found
    (c.in-Ok.ensures.front first) (c.in-Ok-look.ensures.front second) c.in-Ok-choose_slot.ensures.current c.in-Ok-choose_slot.ensures.tag c.in-Second.is
