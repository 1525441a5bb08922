use Rattle.std.proofs.Common.{rules}
use Rattle.ide_journal.proofs.Found.{is_recovered, recovers}
use Rattle.ide_journal.proofs.opening.recover.Goals as goal

pub returns-in-Ok-clause-recovered : goal.returns-in-Ok-clause-recovered
returns-in-Ok-clause-recovered g c honest =
    is_recovered g.D.Disk c.args.disk.now c.load.new.disk c.cut_behind.new.disk c.args.tag c.in_ok-loaded.loaded
    (c.in_ok-loaded.ensures.loaded honest) (c.in_ok-loaded.ensures.state honest) (c.in-Ok.ensures.bytes (c.load.ensures.runs.honest honest))

pub returns-in-Ok-clause-runs : goal.returns-in-Ok-clause-runs
returns-in-Ok-clause-runs g c = record {
  honest = search rules;
  any_moment = λ honest.
      recovers g.D.Disk c.args.disk.now c.load.new.disk c.cut_behind.new.disk c.args.tag c.in_ok-loaded.loaded
      (c.in_ok-loaded.ensures.loaded honest) (c.in_ok-loaded.ensures.state honest) (c.load.ensures.runs.any_moment honest)
      (c.cut_behind.ensures.any_moment (c.load.ensures.runs.honest honest));
  failures = search rules;
}

pub returns-in-Err-clause-runs : goal.returns-in-Err-clause-runs
returns-in-Err-clause-runs g c = record {
  honest = search rules;
  any_moment = λ honest.
      recovers g.D.Disk c.args.disk.now c.load.new.disk c.cut_behind.new.disk c.args.tag c.in_ok-loaded.loaded
      (c.in_ok-loaded.ensures.loaded honest) (c.in_ok-loaded.ensures.state honest) (c.load.ensures.runs.any_moment honest)
      (c.cut_behind.ensures.any_moment (c.load.ensures.runs.honest honest));
  failures = search rules;
}
