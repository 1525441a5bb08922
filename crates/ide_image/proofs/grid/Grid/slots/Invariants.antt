use Rattle.std.proofs.Common.{ℕ}
use Rattle.std.specs.Prelude.{slice_index}
use Rattle.ide_image.specs.ChangeLog.{is_noted_in}
use Rattle.ide_image.specs.Grid.{AreRanksOn, IsOn, start_at}
use Rattle.ide_image.proofs.Rows.{AreReadToBlock}
use Rattle.ide_image.proofs.grid.Grid.slots.Given as goal

-- the slots are read up to the blocks from this row on
abbrev pub invariant-loop-row : goal.invariant-loop-row
invariant-loop-row l = record {
  read : (rank : ℕ → ℕ) → AreRanksOn (is_noted_in l.marks) (λ i. start_at l.self (slice_index l.rows i)) l.rows rank
      → AreReadToBlock (IsOn (is_noted_in l.marks) l.self) rank l.rows l.row l.slots.items;
}
