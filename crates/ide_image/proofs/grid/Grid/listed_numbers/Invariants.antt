use Rattle.std.proofs.Common.{◌≤◌}
use Rattle.std.specs.Prelude.{vec_capacity, vec_len}
use Rattle.ide_image.specs.Grid.{AreNumbersTo}
use Rattle.ide_image.proofs.grid.Grid.listed_numbers.Given as goal

-- the numbers are of the rows before this one, and there is room for one of each row
abbrev pub invariant-loop-row : goal.invariant-loop-row
invariant-loop-row g l = record {
  numbers : AreNumbersTo l.indexed l.self l.row l.numbers.items;
  few : vec_len l.numbers ≤ l.row;
  room : l.count ≤ vec_capacity l.numbers;
}
