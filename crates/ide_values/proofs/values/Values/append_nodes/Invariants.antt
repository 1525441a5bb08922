use Rattle.std.proofs.Common.{◌≡◌, ◌++◌}
use Rattle.std.specs.List.{flat_map, range_with_len}
use Rattle.ide_values.specs.Dump.{lines_at}
use Rattle.ide_values.specs.Values.{value_there}
use Rattle.ide_values.proofs.values.Values.append_nodes.Given as goal

abbrev pub invariant-loop-index : goal.invariant-loop-index
invariant-loop-index g l = record {
  graph : l.columns.graph ≡ l.self.graph;
  text :
      l.out.items ≡ l.fn.out.items
      ++ flat_map (lines_at l.self.graph (λ n d. g.P.L.Lattice.shown (value_there g.P.L.Lattice.algebra l.self n d))) (range_with_len 0 l.index);
}
