use Rattle.std.proofs.Common.{◌≡◌, ◌+◌, ◌-◌, ◌*◌, ◌≤◌, length}
use Rattle.ide_values.specs.Fill.{IsFilledBy}
use Rattle.ide_values.proofs.fill.fill_stretch.Given as goal

-- the rows are filled by the cells in front of the offset
abbrev pub invariant-loop-offset : goal.invariant-loop-offset
invariant-loop-offset g l = record {
  begin : l.begin ≤ l.offset;
  end : l.offset ≤ l.end;
  count : length l.rows ≡ length l.fn.rows;
  filled : IsFilledBy g.F.L.Lattice.algebra g.F.EdgeFn.edge l.graph l.tables l.starts l.first (64 * l.page + l.offset) l.rows;
}

abbrev pub decreases-loop-offset : goal.decreases-loop-offset
decreases-loop-offset g l = l.end - l.offset
