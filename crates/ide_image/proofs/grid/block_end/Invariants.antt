use Rattle.ide_image.specs.Grid.{AreOfBlock}
use Rattle.ide_image.proofs.grid.block_end.Given as goal

-- the numbers from the index on, up to this one, are of its block
abbrev pub invariant-loop-end : goal.invariant-loop-end
invariant-loop-end l = record { block : AreOfBlock l.numbers l.index l.end }
