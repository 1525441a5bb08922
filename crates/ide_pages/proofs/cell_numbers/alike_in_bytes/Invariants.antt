use Rattle.ide_pages.specs.Alike.{AllAre}
use Rattle.ide_pages.proofs.cell_numbers.alike_in_bytes.Given as goal

-- the cells that were looked at have the number
abbrev pub invariant-loop-cell : goal.invariant-loop-cell
invariant-loop-cell l = AllAre l.number l.bytes l.begin l.cell
