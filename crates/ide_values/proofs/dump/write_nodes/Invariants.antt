use Rattle.std.proofs.Common.{◌≡◌}
use Rattle.ide_values.specs.Rows.{MovesRows}
use Rattle.ide_values.proofs.dump.write_nodes.Given as goal

-- the lines of the first nodes are moved
abbrev pub invariant-loop-row : goal.invariant-loop-row
invariant-loop-row g l = record {
  graph : l.columns.graph ≡ l.graph;
  moves : MovesRows g.L.Lattice.algebra g.L.Lattice.shown l.graph l.first l.row l.rows l.fn.piece l.piece (g.W.Write.contents l.fn.out) (g.W.Write.contents l.out);
}
