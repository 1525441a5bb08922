use Rattle.std.proofs.Common.{map, take}
use Rattle.ide_solver.specs.Begun.{AreBegun}
use Rattle.ide_solver.proofs.solver.begin_roots.Given as goal

-- the roots of the names that were gone over are begun
abbrev pub invariant-loop-name : goal.invariant-loop-name
invariant-loop-name g l =
    AreBegun g.P.L.Lattice.algebra g.P.F.EdgeFn.edge g.P.Problem.targets l.initial.core l.core (map (λ name. name.now) (take l.name-index l.names))
