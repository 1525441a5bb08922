use Rattle.ide_image.specs.ChangeLog.{is_noted_in}
use Rattle.ide_image.specs.Grid.{ReadsOffsets}
use Rattle.ide_image.proofs.grid.push_block.Given as goal

-- the slots are read up to this offset, if those of before were up to the block
abbrev pub invariant-loop-offset : goal.invariant-loop-offset
invariant-loop-offset l = record { reads : ReadsOffsets (is_noted_in l.marks) l.block 0 l.offset l.initial.slots l.slots }
