use Rattle.std.proofs.Common.{refl}
use Rattle.ide_steps.specs.Steps.{none_yet}
use Rattle.ide_steps.proofs.Noted.{remembers-same}
use Rattle.ide_steps.proofs.Refusing.{wants-memory}
use Rattle.ide_steps.proofs.States.{at-ok, tasks-here}
use Rattle.ide_steps.specs.PartRefusal.{stale}
use Rattle.ide_steps.proofs.machine.Core.parts.Goals as goal

pub returns-then-is_current-clause-parts : goal.returns-then-is_current-clause-parts
returns-then-is_current-clause-parts g c = c.next_parts.ensures.parts c.args.work.now.task (c.is_current.ensures.current.0 c.if-is_current.true)

pub returns-then-is_current-clause-tasks : goal.returns-then-is_current-clause-tasks
returns-then-is_current-clause-tasks g c = c.next_parts.ensures.tasks

pub returns-else-is_current-clause-tasks : goal.returns-else-is_current-clause-tasks
returns-else-is_current-clause-tasks g c = λ task at. tasks-here c.args.hand c.args.work.now.done task c.args.self.now.pile at

pub returns-then-is_current-clause-refused : goal.returns-then-is_current-clause-refused
returns-then-is_current-clause-refused g c =
    wants-memory g.P.F.EdgeFn.edge g.P.Problem.targets c.args.self.now c.args.hand c.args.work.now c.next_parts.result c.next_parts.ensures.refused c.next_parts.ensures.left
    (record { claim = c.is_current.ensures.current.0 c.if-is_current.true; parts = c.is_current.ensures.owed c.if-is_current.true })

pub returns-else-is_current-clause-refused : goal.returns-else-is_current-clause-refused
returns-else-is_current-clause-refused g c = stale (λ is. let yes = c.is_current.ensures.current.1 is in cc (yes, c.if-is_current.false))

pub returns-else-is_current-clause-parts : goal.returns-else-is_current-clause-parts
returns-else-is_current-clause-parts g c = none_yet

pub returns-then-is_current-clause-current : goal.returns-then-is_current-clause-current
returns-then-is_current-clause-current g c =
    at-ok c.next_parts.result
    (record { claim = c.is_current.ensures.current.0 c.if-is_current.true; parts = c.is_current.ensures.owed c.if-is_current.true })

pub next_parts-requires : goal.next_parts-requires
next_parts-requires g c =
    c.parts_are_inside.ensures c.args.work.now
    (record { claim = c.is_current.ensures.current.0 c.if-is_current.true; parts = c.is_current.ensures.owed c.if-is_current.true })

pub returns-else-is_current-clause-remembers : goal.returns-else-is_current-clause-remembers
returns-else-is_current-clause-remembers g c = remembers-same _ _ refl refl refl
