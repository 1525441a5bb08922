use Rattle.std.proofs.Common.{ℕ, List}
use Rattle.std.specs.Prelude.{slice_index}
use Rattle.ide_image.specs.ChangeLog.{is_noted_in}
use Rattle.ide_image.specs.Grid.{AreRanksOn, AreReadTo, IsBlock, IsOn, bound_at}
use Rattle.ide_image.proofs.Rows.{AreReadToRow}
use Rattle.ide_image.proofs.grid.push_column.Given as goal

-- the slots are read up to this row, if those of before were up to the column
abbrev pub invariant-loop-row : goal.invariant-loop-row
invariant-loop-row l = record {
  read : (pages numbers : List ℕ) (rank : ℕ → ℕ) → IsBlock pages numbers l.block → AreRanksOn (is_noted_in l.marks) (λ i. slice_index l.block i) numbers rank
      → AreReadTo (IsOn (is_noted_in l.marks) pages) rank (bound_at (slice_index numbers 0) l.offset) l.initial.slots.items
      → AreReadToRow (IsOn (is_noted_in l.marks) pages) rank numbers l.offset l.row l.slots.items;
}
