use Rattle.ide_journal.specs.Bytes.{IsBefore}
use Rattle.ide_journal.proofs.Left.{left_before_cut, left_after_cut}
use Rattle.ide_journal.proofs.Found.{cut_then_synced}
use Rattle.ide_journal.proofs.Moments.{one_call, goes_on}
use Rattle.ide_journal.proofs.disk_calls.cut_behind.Goals as goal

pub returns-in_err-cut-clause-any_moment : goal.returns-in_err-cut-clause-any_moment
returns-in_err-cut-clause-any_moment g c honest base rest gate is =
    let disk = c.args.disk.now in
    one_call g.D.Disk disk c.cut.new.self (IsBefore base)
    (λ left since. g.met.D.Disk.only_now disk left honest since)
    (c.cut.ensures.time honest)
    (left_before_cut base rest (g.D.Disk.state disk) is)
    (left_after_cut base rest c.args.gate (g.D.Disk.state disk) (g.D.Disk.state c.cut.new.self) gate is (c.cut.ensures.crash honest))

pub returns-clause-any_moment : goal.returns-clause-any_moment
returns-clause-any_moment g c honest base rest gate is =
    let disk = c.args.disk.now in
    let cut_honest = c.cut.ensures.honest honest in
    let after = left_after_cut base rest c.args.gate (g.D.Disk.state disk) (g.D.Disk.state c.cut.new.self) gate is (c.cut.ensures.crash honest) in
    goes_on g.D.Disk disk c.cut.new.self c.sync.new.self (IsBefore base)
    (one_call g.D.Disk disk c.cut.new.self (IsBefore base)
    (λ left since. g.met.D.Disk.only_now disk left honest since)
    (c.cut.ensures.time honest)
    (left_before_cut base rest (g.D.Disk.state disk) is)
    after)
    (one_call g.D.Disk c.cut.new.self c.sync.new.self (IsBefore base)
    (λ left since. g.met.D.Disk.only_now c.cut.new.self left cut_honest since)
    (c.sync.ensures.time cut_honest)
    after
    (λ left leaves. after left ((c.sync.ensures.crash cut_honest).leaves left leaves)))

pub returns-clause-bytes : goal.returns-clause-bytes
returns-clause-bytes g c honest =
    let cut_honest = c.cut.ensures.honest honest in
    let state = g.D.Disk.state in
    cut_then_synced c.args.gate (state c.args.disk.now) (state c.cut.new.self) (state c.sync.new.self) c.sync.result
    (c.in_ok-cut.ensures.bytes honest) (c.sync.ensures.bytes cut_honest)
