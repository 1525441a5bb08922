use Rattle.std.proofs.Common.{◌≡◌}
use Rattle.ide_theory.specs.Images.{seeded_below}
use Rattle.ide_steps.specs.Rooted.{AllAbsent, AllAt, with_entries}
use Rattle.ide_steps.specs.State.{state_of}
use Rattle.ide_steps.proofs.Entries.{AreBefore}
use Rattle.ide_steps.proofs.machine.Core.absent_jumps.Given as goal

-- the facts so far are entered by the entries so far, which are of no later fact and stand at the start
abbrev pub invariant-loop-fact : goal.invariant-loop-fact
invariant-loop-fact g l = record {
  entered :
      seeded_below g.P.F.EdgeFn.edge (state_of g.P.F.EdgeFn.edge g.P.Problem.targets l.self) l.start l.fact
      ≡ with_entries (state_of g.P.F.EdgeFn.edge g.P.Problem.targets l.self) l.jumps.items;
  before : AreBefore l.start l.fact l.jumps.items;
  place : AllAt l.start l.jumps.items;
  absent : AllAbsent l.self l.jumps.items;
}
