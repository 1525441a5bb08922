use Rattle.std.proofs.Common.{subst, sym, refl}
use Rattle.ide_tasks.specs.Work.{WorkData}
use Rattle.ide_steps.specs.Core.{CoreData}
use Rattle.ide_steps.specs.PartRefusal.{stale}
use Rattle.ide_steps.specs.Steps.{KeepTasks}
use Rattle.ide_steps.proofs.Noted.{remembers-same}
use Rattle.ide_steps.proofs.Refusing.{wants-memory}
use Rattle.ide_steps.proofs.States.{after-part, at-ok, tasks-here}
use Rattle.ide_steps.proofs.machine.Core.part.Goals as goal

pub returns-then-not-is_current-clause-refused : goal.returns-then-not-is_current-clause-refused
returns-then-not-is_current-clause-refused g c = stale (λ is. let yes = c.is_current.ensures.current.1 is in cc (yes, c.if-not-is_current.true))

pub returns-then-not-is_current-clause-remembers : goal.returns-then-not-is_current-clause-remembers
returns-then-not-is_current-clause-remembers g c = remembers-same _ _ refl refl refl

pub next_part-requires : goal.next_part-requires
next_part-requires g c =
    c.parts_are_inside.ensures c.args.work.now
    (record { claim = c.is_current.ensures.current.0 c.if-not-is_current.false; parts = c.is_current.ensures.owed c.if-not-is_current.false })

pub returns-clause-current : goal.returns-clause-current
returns-clause-current g c =
    at-ok c.next_part.result
    (record { claim = c.is_current.ensures.current.0 c.if-not-is_current.false; parts = c.is_current.ensures.owed c.if-not-is_current.false })

pub returns-clause-refused : goal.returns-clause-refused
returns-clause-refused g c =
    wants-memory g.P.F.EdgeFn.edge g.P.Problem.targets c.args.self.now c.args.hand c.args.work.now c.next_part.result c.next_part.ensures.refused c.next_part.ensures.left
    (record { claim = c.is_current.ensures.current.0 c.if-not-is_current.false; parts = c.is_current.ensures.owed c.if-not-is_current.false })

pub returns-clause-lowered : goal.returns-clause-lowered
returns-clause-lowered g c = λ is. c.next_part.ensures.lowered is c.args.work.now.task (c.is_current.ensures.current.0 c.if-not-is_current.false)

pub returns-clause-same : goal.returns-clause-same
returns-clause-same g c = λ is. c.next_part.ensures.same is c.args.work.now.task (c.is_current.ensures.current.0 c.if-not-is_current.false)

-- where no part was left, the claim has as many done as the work
pub returns-clause-tasks : goal.returns-clause-tasks
returns-clause-tasks g c =
    let old = c.args.self.now in
    after-part c.next_part.result c.next_part.ensures.tasks
    (λ none.
    let kept = c.next_part.ensures.no_part none in
    subst (λ (work : WorkData g.row.P-F.Denot). KeepTasks c.args.hand work.done old.pile c.next_part.new.self.pile) (sym kept.2)
    (subst (λ (core : CoreData g.row.P-F.Denot). KeepTasks c.args.hand c.args.work.now.done old.pile core.pile) (sym kept.1)
    (tasks-here c.args.hand c.args.work.now.done c.args.work.now.task old.pile (c.is_current.ensures.current.0 c.if-not-is_current.false))))
