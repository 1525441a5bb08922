use Rattle.std.proofs.Common.{◌≡◌, take}
use Rattle.ide_pages.proofs.rows.copied_rows.Given as goal

-- the rows so far
abbrev pub invariant-loop-row : goal.invariant-loop-row
invariant-loop-row l = l.copies.items ≡ take l.row-index l.rows
