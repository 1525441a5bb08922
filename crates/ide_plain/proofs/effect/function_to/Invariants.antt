use Rattle.std.proofs.Common.{◌≡◌, drop}
use Rattle.ide_problem.specs.Flow.{function_to}
use Rattle.ide_plain.proofs.effect.function_to.Given as goal

abbrev pub invariant-loop-target : goal.invariant-loop-target
invariant-loop-target g l = function_to g.F.EdgeFn.edge l.fn.fact l.fn.targets.list.items ≡ function_to g.F.EdgeFn.edge l.fn.fact (drop l.target-index l.fn.targets.list.items)
