use Rattle.std.proofs.Common.{◌≡◌}
use Rattle.ide_pages.specs.CellNumbers.{with_run}
use Rattle.ide_pages.proofs.cell_numbers.write_cells.Given as goal

-- the first cells have the number
abbrev pub invariant-loop-step : goal.invariant-loop-step
invariant-loop-step g l = l.numbers ≡ with_run l.fn.numbers l.first l.number l.step
