use Rattle.std.proofs.Common.{◌≡◌, ◌+◌, ◌-◌, ◌*◌, ◌≤◌, ◌++◌}
use Rattle.std.specs.Prelude.{vec_capacity, vec_len}
use Rattle.ide_image.proofs.Blocks.{block_from}
use Rattle.ide_image.proofs.indexed.add_block.Given as goal

-- the facts so far, and those from this cell on, for which there is room
abbrev pub invariant-loop-cell : goal.invariant-loop-cell
invariant-loop-cell g l = record {
  first : l.first ≡ 64 * l.listed.1;
  from : l.first ≤ l.cell;
  to : l.cell ≤ l.first + 64;
  listed : l.partners.items ++ block_from g.F.EdgeFn.edge.all_top l.functions.items l.places l.listed (l.cell - l.first) (l.first + 64 - l.cell)
      ≡ l.fn.partners.items ++ block_from g.F.EdgeFn.edge.all_top l.functions.items l.places l.listed 0 64;
  room : vec_len l.partners + (l.first + 64 - l.cell) ≤ vec_capacity l.partners;
}

abbrev pub decreases-loop-cell : goal.decreases-loop-cell
decreases-loop-cell g l = l.first + 64 - l.cell
