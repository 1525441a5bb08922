use Rattle.std.proofs.Common.{◌≡◌, ◌-◌, ◌*◌, ◌≤◌, List, length}
use Rattle.ide_values.specs.Dump.{Moves}
use Rattle.ide_values.specs.Fill.{FillsFrom}
use Rattle.ide_values.specs.Rows.{lines_of_rows}
use Rattle.ide_values.proofs.chunks.write_chunks.Given as goal

-- the rows of the first nodes were filled, and their lines are moved
abbrev pub invariant-loop-first : goal.invariant-loop-first
invariant-loop-first g l = record {
  room : length l.rows ≡ l.size * l.graph.facts;
  within : l.first ≤ l.graph.nodes;
  done : List g.row.F-L.Denot;
  long : length done ≡ l.first * l.graph.facts;
  fills : FillsFrom g.F.L.Lattice.algebra g.F.EdgeFn.edge l.graph l.tables.table l.starts 0 done;
  moves : Moves (lines_of_rows g.F.L.Lattice.algebra g.F.L.Lattice.shown l.graph 0 l.first done) l.piece.items (g.W.Write.contents l.fn.out) (g.W.Write.contents l.out);
}

abbrev pub decreases-loop-first : goal.decreases-loop-first
decreases-loop-first g l = l.nodes - l.first
