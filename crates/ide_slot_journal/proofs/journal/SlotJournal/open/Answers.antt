use Rattle.std.proofs.Common.{ap, inl, subst}
use Rattle.ide_disk.specs.Disk.{DiskState}
use Rattle.ide_slots.specs.declared.side.Side.{Side}
use Rattle.ide_slots.specs.declared.side.Side.TheVariants.{First, Second}
use Rattle.ide_slot_journal.specs.Opened.{sides_left}
use Rattle.ide_slot_journal.specs.Opening.{IsChosenWith, now_of}
use Rattle.ide_slot_journal.proofs.Opened.{opened_on, refused_choice, refused_on, still_settled, stops_anywhere, stops_behind}
use Rattle.ide_slot_journal.proofs.Openings.{no_more_now}
use Rattle.ide_slot_journal.proofs.journal.SlotJournal.open.Goals as goal

pub returns-in-Ok-First-default-clause-opened : goal.returns-in-Ok-First-default-clause-opened
returns-in-Ok-First-default-clause-opened g c first second =
    opened_on First c.args.tag c.args.a c.args.b c.choose.new.a c.choose.new.b c.in-Ok-First-default.closed c.resume.result
    (subst (λ (s : Side). IsChosenWith c.args.tag (now_of g.D.Disk c.args.a c.args.b) s c.in-Ok-First-default.closed) c.in-Ok-First-default.field-0-0-is (c.in-Ok-First-default.ensures.chosen first second))
    (c.in-Ok-First-default.ensures.first_synced first) (c.in-Ok-First-default.ensures.second_synced second)
    (c.resume.ensures.resumes (c.choose.ensures.first_honest first) (still_settled (g.D.Disk.state c.choose.new.a) _ (c.in-Ok-First-default.ensures.first_synced first))) c.resume.ensures.fresh

pub returns-in-Ok-First-default-clause-any_moment : goal.returns-in-Ok-First-default-clause-any_moment
returns-in-Ok-First-default-clause-any_moment g c first second =
    let chosen = (subst (λ (s : Side). IsChosenWith c.args.tag (now_of g.D.Disk c.args.a c.args.b) s c.in-Ok-First-default.closed) c.in-Ok-First-default.field-0-0-is (c.in-Ok-First-default.ensures.chosen first second)) in
    stops_anywhere g.D.Disk First c.args.a c.args.b c.choose.new.a c.choose.new.b (sides_left c.resume.result) chosen.current.chosen
    (g.met.D.Disk.possible c.args.a first) (c.in-Ok-First-default.ensures.first_synced first) (c.choose.ensures.first_moments first)
    (c.resume.ensures.any_moment (c.choose.ensures.first_honest first) (still_settled (g.D.Disk.state c.choose.new.a) _ (c.in-Ok-First-default.ensures.first_synced first)))
    (c.choose.ensures.second_moments second) c.resume.ensures.other

pub returns-in-Ok-First-default-clause-stops : goal.returns-in-Ok-First-default-clause-stops
returns-in-Ok-First-default-clause-stops g c first second =
    let chosen = (subst (λ (s : Side). IsChosenWith c.args.tag (now_of g.D.Disk c.args.a c.args.b) s c.in-Ok-First-default.closed) c.in-Ok-First-default.field-0-0-is (c.in-Ok-First-default.ensures.chosen first second)) in
    stops_behind g.D.Disk First c.args.a c.args.b c.choose.new.a c.choose.new.b c.resume.result chosen.current.chosen
    (g.met.D.Disk.possible c.args.a first) (c.in-Ok-First-default.ensures.first_synced first)
    (c.resume.ensures.stops (c.choose.ensures.first_honest first) (still_settled (g.D.Disk.state c.choose.new.a) _ (c.in-Ok-First-default.ensures.first_synced first)))
    (no_more_now g.D.Disk g.met.D.Disk.counts_now g.met.D.Disk.possible c.args.b c.choose.new.b
    (c.choose.ensures.second_honest second) (c.choose.ensures.second_moments second)) c.resume.ensures.other

pub returns-in-Ok-First-default-clause-refused : goal.returns-in-Ok-First-default-clause-refused
returns-in-Ok-First-default-clause-refused g c first second =
    refused_on c.resume.result c.args.tag (now_of g.D.Disk c.args.a c.args.b) First c.in-Ok-First-default.closed (g.D.Disk.state c.choose.new.a).now
    (ap (λ (d : DiskState). d.now) (c.in-Ok-First-default.ensures.first_synced first))
    (subst (λ (s : Side). IsChosenWith c.args.tag (now_of g.D.Disk c.args.a c.args.b) s c.in-Ok-First-default.closed) c.in-Ok-First-default.field-0-0-is (c.in-Ok-First-default.ensures.chosen first second))
    (c.resume.ensures.refused (c.choose.ensures.first_honest first))

pub returns-in-Ok-Second-default-clause-opened : goal.returns-in-Ok-Second-default-clause-opened
returns-in-Ok-Second-default-clause-opened g c first second =
    opened_on Second c.args.tag c.args.b c.args.a c.choose.new.b c.choose.new.a c.in-Ok-Second-default.closed c.resume-in-Ok-Second-default.result
    (subst (λ (s : Side). IsChosenWith c.args.tag (now_of g.D.Disk c.args.a c.args.b) s c.in-Ok-Second-default.closed) c.in-Ok-Second-default.field-0-0-is (c.in-Ok-Second-default.ensures.chosen first second))
    (c.in-Ok-Second-default.ensures.second_synced second) (c.in-Ok-Second-default.ensures.first_synced first)
    (c.resume-in-Ok-Second-default.ensures.resumes (c.choose.ensures.second_honest second) (still_settled (g.D.Disk.state c.choose.new.b) _ (c.in-Ok-Second-default.ensures.second_synced second))) c.resume-in-Ok-Second-default.ensures.fresh

pub returns-in-Ok-Second-default-clause-any_moment : goal.returns-in-Ok-Second-default-clause-any_moment
returns-in-Ok-Second-default-clause-any_moment g c first second =
    let chosen = (subst (λ (s : Side). IsChosenWith c.args.tag (now_of g.D.Disk c.args.a c.args.b) s c.in-Ok-Second-default.closed) c.in-Ok-Second-default.field-0-0-is (c.in-Ok-Second-default.ensures.chosen first second)) in
    stops_anywhere g.D.Disk Second c.args.b c.args.a c.choose.new.b c.choose.new.a (sides_left c.resume-in-Ok-Second-default.result) chosen.current.chosen
    (g.met.D.Disk.possible c.args.b second) (c.in-Ok-Second-default.ensures.second_synced second) (c.choose.ensures.second_moments second)
    (c.resume-in-Ok-Second-default.ensures.any_moment (c.choose.ensures.second_honest second) (still_settled (g.D.Disk.state c.choose.new.b) _ (c.in-Ok-Second-default.ensures.second_synced second)))
    (c.choose.ensures.first_moments first) c.resume-in-Ok-Second-default.ensures.other

pub returns-in-Ok-Second-default-clause-stops : goal.returns-in-Ok-Second-default-clause-stops
returns-in-Ok-Second-default-clause-stops g c first second =
    let chosen = (subst (λ (s : Side). IsChosenWith c.args.tag (now_of g.D.Disk c.args.a c.args.b) s c.in-Ok-Second-default.closed) c.in-Ok-Second-default.field-0-0-is (c.in-Ok-Second-default.ensures.chosen first second)) in
    stops_behind g.D.Disk Second c.args.b c.args.a c.choose.new.b c.choose.new.a c.resume-in-Ok-Second-default.result chosen.current.chosen
    (g.met.D.Disk.possible c.args.b second) (c.in-Ok-Second-default.ensures.second_synced second)
    (c.resume-in-Ok-Second-default.ensures.stops (c.choose.ensures.second_honest second) (still_settled (g.D.Disk.state c.choose.new.b) _ (c.in-Ok-Second-default.ensures.second_synced second)))
    (no_more_now g.D.Disk g.met.D.Disk.counts_now g.met.D.Disk.possible c.args.a c.choose.new.a
    (c.choose.ensures.first_honest first) (c.choose.ensures.first_moments first)) c.resume-in-Ok-Second-default.ensures.other

pub returns-in-Ok-Second-default-clause-refused : goal.returns-in-Ok-Second-default-clause-refused
returns-in-Ok-Second-default-clause-refused g c first second =
    refused_on c.resume-in-Ok-Second-default.result c.args.tag (now_of g.D.Disk c.args.a c.args.b) Second c.in-Ok-Second-default.closed (g.D.Disk.state c.choose.new.b).now
    (ap (λ (d : DiskState). d.now) (c.in-Ok-Second-default.ensures.second_synced second))
    (subst (λ (s : Side). IsChosenWith c.args.tag (now_of g.D.Disk c.args.a c.args.b) s c.in-Ok-Second-default.closed) c.in-Ok-Second-default.field-0-0-is (c.in-Ok-Second-default.ensures.chosen first second))
    (c.resume-in-Ok-Second-default.ensures.refused (c.choose.ensures.second_honest second))

pub returns-in-Err-clause-stops : goal.returns-in-Err-clause-stops
returns-in-Err-clause-stops g c first second = inl (
  no_more_now g.D.Disk g.met.D.Disk.counts_now g.met.D.Disk.possible c.args.a c.choose.new.a
      (c.choose.ensures.first_honest first) (c.choose.ensures.first_moments first),
  no_more_now g.D.Disk g.met.D.Disk.counts_now g.met.D.Disk.possible c.args.b c.choose.new.b
      (c.choose.ensures.second_honest second) (c.choose.ensures.second_moments second),
)

pub returns-in-Err-clause-refused : goal.returns-in-Err-clause-refused
returns-in-Err-clause-refused g c first second =
    refused_choice c.args.tag (now_of g.D.Disk c.args.a c.args.b) c.in-Err.refused (c.in-Err.ensures.refused first second)
