use Rattle.std.proofs.Common.{◌≤◌}
use Rattle.std.specs.Prelude.{vec_capacity}
use Rattle.ide_image.specs.Grid.{AreStarts}
use Rattle.ide_image.proofs.grid.Grid.first_slots.Given as goal

-- these are the first slots of the rows before this one, and there is room for one of each row
abbrev pub invariant-loop-index : goal.invariant-loop-index
invariant-loop-index l = record {
  starts : AreStarts l.self l.rows l.index l.starts.items;
  room : l.count ≤ vec_capacity l.starts;
}
