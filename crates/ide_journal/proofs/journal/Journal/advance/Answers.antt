use Rattle.ide_journal.specs.Lists.{HoldsWithOrWithout}
use Rattle.ide_journal.proofs.Advance.{under_way_left, under_way_holds, moved_left, moved_holds, moved}
use Rattle.ide_journal.proofs.Moments.{one_call, no_call}
use Rattle.ide_journal.proofs.journal.Journal.advance.Goals as goal

pub returns-then-eq-clause-any_moment : goal.returns-then-eq-clause-any_moment
returns-then-eq-clause-any_moment g c honest head entries entry under =
    let self = c.args.self.now in
    no_call g.D.Disk self.disk (HoldsWithOrWithout head entries entry)
    (λ left since. g.met.D.Disk.only_now self.disk left honest since)
    (under_way_left head entries entry self under)

pub returns-in-Ok-clause-under_way : goal.returns-in-Ok-clause-under_way
returns-in-Ok-clause-under_way g c honest head entries entry under =
    moved head entries entry c.args.self.now c.step.new.self under (c.step.ensures.moves honest _ _ under.stands) c.step.ensures.count c.step.ensures.next c.step.ensures.version

pub returns-in-Ok-clause-any_moment : goal.returns-in-Ok-clause-any_moment
returns-in-Ok-clause-any_moment g c honest head entries entry under =
    let self = c.args.self.now in
    one_call g.D.Disk self.disk c.step.new.self.disk (HoldsWithOrWithout head entries entry)
    (λ left since. g.met.D.Disk.only_now self.disk left honest since)
    (c.step.ensures.call.time honest)
    (under_way_left head entries entry self under)
    (moved_left head entries entry self c.step.new.self under (c.step.ensures.moves honest _ _ under.stands))

pub returns-in-Err-clause-any_moment : goal.returns-in-Err-clause-any_moment
returns-in-Err-clause-any_moment g c honest head entries entry under =
    let self = c.args.self.now in
    one_call g.D.Disk self.disk c.step.new.self.disk (HoldsWithOrWithout head entries entry)
    (λ left since. g.met.D.Disk.only_now self.disk left honest since)
    (c.step.ensures.call.time honest)
    (under_way_left head entries entry self under)
    (moved_left head entries entry self c.step.new.self under (c.step.ensures.moves honest _ _ under.stands))

pub returns-then-eq-clause-holds : goal.returns-then-eq-clause-holds
returns-then-eq-clause-holds g c honest head entries entry under =
    let self = c.args.self.now in
    under_way_holds head entries entry self under (g.met.D.Disk.possible self.disk honest)

pub returns-in-Ok-clause-holds : goal.returns-in-Ok-clause-holds
returns-in-Ok-clause-holds g c honest head entries entry under =
    moved_holds head entries entry c.step.new.self
    (moved head entries entry c.args.self.now c.step.new.self under (c.step.ensures.moves honest _ _ under.stands) c.step.ensures.count c.step.ensures.next c.step.ensures.version)
    (g.met.D.Disk.possible c.step.new.self.disk (c.step.ensures.call.honest honest))

pub returns-in-Err-clause-holds : goal.returns-in-Err-clause-holds
returns-in-Err-clause-holds g c honest head entries entry under =
    moved_holds head entries entry c.step.new.self
    (moved head entries entry c.args.self.now c.step.new.self under (c.step.ensures.moves honest _ _ under.stands) c.step.ensures.count c.step.ensures.next c.step.ensures.version)
    (g.met.D.Disk.possible c.step.new.self.disk (c.step.ensures.call.honest honest))
