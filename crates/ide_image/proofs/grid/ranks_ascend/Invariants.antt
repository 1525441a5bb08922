use Rattle.std.proofs.Common.{ℕ, ◌<◌, ◌/◌}
use Rattle.std.specs.Prelude.{slice_index}
use Rattle.ide_image.proofs.grid.ranks_ascend.Given as goal

-- the ranks before this one ascend
abbrev pub invariant-loop-row : goal.invariant-loop-row
invariant-loop-row l = record { ascend : (i j : ℕ) → i < j → j < l.row → slice_index l.numbers i / 65536 < slice_index l.numbers j / 65536 }
