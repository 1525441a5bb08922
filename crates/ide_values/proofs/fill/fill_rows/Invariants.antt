use Rattle.std.proofs.Common.{◌≡◌, ◌-◌, ◌*◌, length}
use Rattle.ide_values.specs.Fill.{IsFilledBy}
use Rattle.ide_values.specs.Stretches.{AreStretches}
use Rattle.ide_values.proofs.fill.fill_rows.Given as goal

-- the rows are filled by the cells of the first pages
abbrev pub invariant-loop-page : goal.invariant-loop-page
invariant-loop-page g l = record {
  count : length l.rows ≡ length l.fn.rows;
  stretches : AreStretches l.graph l.stretches;
  filled : IsFilledBy g.F.L.Lattice.algebra g.F.EdgeFn.edge l.graph l.tables l.starts l.first (64 * l.page) l.rows;
}

abbrev pub decreases-loop-page : goal.decreases-loop-page
decreases-loop-page g l = l.pages - l.page
