use Rattle.std.proofs.Common.{inl}
use Rattle.ide_slot_journal.specs.Opening.{read_device}
use Rattle.ide_slot_journal.proofs.Openings.{cut_stops, no_more_now, recovered, recovers}
use Rattle.ide_slot_journal.proofs.opening.recover.Goals as goal

pub returns-in-Ok-cut_behind-clause-recovered : goal.returns-in-Ok-cut_behind-clause-recovered
returns-in-Ok-cut_behind-clause-recovered g c honest is =
    recovered g.D.Disk c.args.disk.now c.load.new.disk c.cut_behind.new.disk c.in-Ok.slot (c.in-Ok.ensures.read honest) is (c.load.ensures.same.state honest)
    (c.in-Ok-cut_behind.ensures.bytes (c.load.ensures.same.honest honest))

pub returns-in-Ok-cut_behind-clause-any_moment : goal.returns-in-Ok-cut_behind-clause-any_moment
returns-in-Ok-cut_behind-clause-any_moment g c honest is =
    recovers g.D.Disk c.args.disk.now c.load.new.disk c.cut_behind.new.disk c.in-Ok.slot (c.in-Ok.ensures.read honest) is (c.load.ensures.same.state honest)
    (c.load.ensures.same.any_moment honest) (c.cut_behind.ensures.any_moment (c.load.ensures.same.honest honest))

pub returns-in-Err-cut_behind-clause-any_moment : goal.returns-in-Err-cut_behind-clause-any_moment
returns-in-Err-cut_behind-clause-any_moment g c honest is =
    recovers g.D.Disk c.args.disk.now c.load.new.disk c.cut_behind.new.disk c.in-Ok.slot (c.in-Ok.ensures.read honest) is (c.load.ensures.same.state honest)
    (c.load.ensures.same.any_moment honest) (c.cut_behind.ensures.any_moment (c.load.ensures.same.honest honest))

pub returns-in-Err-cut_behind-clause-refused : goal.returns-in-Err-cut_behind-clause-refused
returns-in-Err-cut_behind-clause-refused g c honest told begins = read_device

pub returns-in-Err-cut_behind-clause-stops : goal.returns-in-Err-cut_behind-clause-stops
returns-in-Err-cut_behind-clause-stops g c honest is =
    let load_honest = c.load.ensures.same.honest honest in
    cut_stops g.D.Disk g.met.D.Disk.counts_now g.met.D.Disk.possible c.args.disk.now c.load.new.disk c.cut_behind.new.disk c.in-Ok.slot
    (c.cut_behind.ensures.honest load_honest) (c.in-Ok.ensures.read honest) is (c.load.ensures.same.state honest) (c.cut_behind.ensures.any_moment load_honest)

pub returns-in-Err-clause-stops : goal.returns-in-Err-clause-stops
returns-in-Err-clause-stops g c honest is =
    inl (no_more_now g.D.Disk g.met.D.Disk.counts_now g.met.D.Disk.possible c.args.disk.now c.load.new.disk
    (c.load.ensures.same.honest honest) (c.load.ensures.same.any_moment honest))
