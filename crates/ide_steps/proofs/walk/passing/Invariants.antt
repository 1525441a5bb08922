use Rattle.std.proofs.Common.{◌<◌, ◌+◌}
use Rattle.ide_steps.specs.Walk.{PassesFor}
use Rattle.ide_steps.proofs.walk.passing.Given as goal

-- the nodes before this one pass the fact on, and it is a node of the graph
abbrev pub invariant-loop-count : goal.invariant-loop-count
invariant-loop-count g l =
    PassesFor g.P.F.EdgeFn.edge g.P.Problem.targets l.graph l.node l.fact l.count × (l.node + l.count < l.graph.nodes)
