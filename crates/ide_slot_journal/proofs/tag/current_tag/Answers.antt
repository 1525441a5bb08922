use Rattle.std.proofs.Common.{subst, sym}
use Rattle.std.proofs.lemmas.Result.{err_from_is_err_and}
use Rattle.ide_journal.proofs.Refused.{handed-on}
use Rattle.ide_slots.specs.declared.current.Current.{Current}
use Rattle.ide_slots.specs.declared.side.Side.TheVariants.{First, Second}
use Rattle.ide_slot_journal.specs.Opening.{IsCurrentTag, IsTagRefusal, now_of}
use Rattle.ide_slot_journal.proofs.Openings.{tag_not_looked, tag_not_told, tag_told}
use Rattle.ide_slot_journal.proofs.tag.current_tag.Goals as goal

pub returns-in_err-first-clause-refused : goal.returns-in_err-first-clause-refused
returns-in_err-first-clause-refused g c first second =
    let p = err_from_is_err_and c.from_residual.result c.from_residual.ensures.1 in
    let refused = c.in_err-first.field-0.0 in
    handed-on (IsTagRefusal (now_of g.D.Disk c.args.a.now c.args.b.now)) c.from_residual.result refused p.0 p.1 p.2
    (tag_not_looked (now_of g.D.Disk c.args.a.now c.args.b.now) First refused (c.in_err-first.ensures.refused first))

pub returns-in_err-second-clause-refused : goal.returns-in_err-second-clause-refused
returns-in_err-second-clause-refused g c first second =
    let p = err_from_is_err_and c.from_residual-in_err-second.result c.from_residual-in_err-second.ensures.1 in
    let refused = c.in_err-second.field-0.0 in
    handed-on (IsTagRefusal (now_of g.D.Disk c.args.a.now c.args.b.now)) c.from_residual-in_err-second.result refused p.0 p.1 p.2
    (tag_not_looked (now_of g.D.Disk c.args.a.now c.args.b.now) Second refused (c.in_err-second.ensures.refused second))

pub returns-in-Some-clause-tag : goal.returns-in-Some-clause-tag
returns-in-Some-clause-tag g c first second =
    subst (λ (found : Current). IsCurrentTag (now_of g.D.Disk c.args.a.now c.args.b.now) found.head.head.tag) (sym c.found.view_is)
    (tag_told (now_of g.D.Disk c.args.a.now c.args.b.now) c.in_ok-first.first c.in_ok-second.second c.in-Some.found (c.in_ok-first.ensures.front first)
    (c.in_ok-second.ensures.front second) c.in-Some.ensures.current)

pub returns-in-None-clause-refused : goal.returns-in-None-clause-refused
returns-in-None-clause-refused g c first second =
    tag_not_told (now_of g.D.Disk c.args.a.now c.args.b.now) c.in_ok-first.first c.in_ok-second.second (c.in_ok-first.ensures.front first)
    (c.in_ok-second.ensures.front second) c.in-None.ensures.none
