use Rattle.std.proofs.Common.{◌≡◌, true}
use Rattle.ide_image.specs.Worklist.{IsFree, is_pending}
use Rattle.ide_steps.specs.Changed.{Remembers}
use Rattle.ide_steps.specs.Core.{IsSameProblem}
use Rattle.ide_steps.specs.Running.{WorksOff}
use Rattle.ide_steps.proofs.machine.Core.do_parts.Given as goal

-- the parts before this one are done, no hand has made a claim, and the key waits still
abbrev pub invariant-loop-part : goal.invariant-loop-part
invariant-loop-part g l = record {
  works : WorksOff g.P.L.Lattice.algebra g.P.F.EdgeFn.edge g.P.Problem.targets 0 l.key l.parts l.part-index l.is_lowered l.initial.self l.self;
  free : IsFree l.self.pile;
  pending : is_pending l.self.pile l.key ≡ true;
  same : IsSameProblem l.initial.self l.self;
  remembers : Remembers l.initial.self l.self;
}
