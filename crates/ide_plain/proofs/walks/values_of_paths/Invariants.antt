use Rattle.std.proofs.Common.{◌≡◌, ◌*◌, length}
use Rattle.ide_plain.proofs.walks.values_of_paths.Given as goal

abbrev pub invariant-loop : goal.invariant-loop
invariant-loop g l = length l.values.items ≡ l.fn.graph.nodes * l.fn.graph.facts
