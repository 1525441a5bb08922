use Rattle.std.proofs.Common.{◌≡◌, ◌+◌, ◌-◌, ◌≤◌, ℕ, None, Some, length}
use Rattle.ide_tasks.specs.Task.{TaskData}
use Rattle.ide_image.specs.Worklist.{claim_at}
use Rattle.ide_steps.specs.Changed.{Remembers}
use Rattle.ide_steps.specs.Core.{IsSameProblem}
use Rattle.ide_steps.specs.State.{state_of}
use Rattle.ide_steps.specs.Steps.{ArePartsDone, KeepTasks, progress_at}
use Rattle.ide_steps.proofs.machine.Core.next_parts.Given as goal

-- as many parts are done as are counted, and they were there to do; where the work is the hand's claim
-- it still is; and no hand has made a claim
abbrev pub invariant-loop-count : goal.invariant-loop-count
invariant-loop-count g l = record {
  within : l.count ≤ length l.initial.work.parts - l.initial.work.done;
  done : l.work ≡ record l.initial.work { done = l.initial.work.done + l.count };
  progress : (task : TaskData g.row.P-F.Denot) → progress_at l.initial.self.pile l.hand ≡ Some (task, l.initial.work.done)
      → progress_at l.self.pile l.hand ≡ Some (task, l.work.done);
  parts : (task : TaskData g.row.P-F.Denot) → progress_at l.initial.self.pile l.hand ≡ Some (task, l.initial.work.done)
      → ArePartsDone g.P.F.EdgeFn.edge l.hand (state_of g.P.F.EdgeFn.edge g.P.Problem.targets l.initial.self) l.initial.work
      (state_of g.P.F.EdgeFn.edge g.P.Problem.targets l.self) l.work;
  tasks : (task : TaskData g.row.P-F.Denot) → progress_at l.initial.self.pile l.hand ≡ Some (task, l.initial.work.done)
      → KeepTasks l.hand l.work.done l.initial.self.pile l.self.pile;
  same : IsSameProblem l.initial.self l.self;
  remembers : Remembers l.initial.self l.self;
  free : (h : ℕ) → claim_at l.initial.self.pile h ≡ None → claim_at l.self.pile h ≡ None;
}
