use Rattle.std.proofs.Common.{arith}
use Rattle.ide_slot_journal.specs.Planning.{chunk_bytes}
use Rattle.ide_slot_journal.proofs.Chunks.{part_more}
use Rattle.ide_slot_journal.proofs.planning.Spelling.push_parts.Goals as goal

pub loop-number-preserved : goal.loop-number-preserved
loop-number-preserved c =
    part_more c.args.parts.now c.loop-number.number c.index-parts-number.result (chunk_bytes c.args.self.now.todo.items) (chunk_bytes c.loop-number.self.todo.items)
    (chunk_bytes c.push.new.self.todo.items) (omega arith) c.index-parts-number.is c.loop-number.invariant c.in_ok-push.ensures.one
