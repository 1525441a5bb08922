use Rattle.std.proofs.Common.{subst}
use Rattle.ide_image.specs.Bits.{bit_in}
use Rattle.ide_image.specs.Queue.{SetsMark, is_held, is_pending_mark, is_stacked}
use Rattle.ide_image.proofs.OfBits.{marks-set}
use Rattle.ide_image.proofs.marks.write.Goals as goal

pub returns-clause-marks : goal.returns-clause-marks
returns-clause-marks c =
    let slot = c.args.slot in
    let pending = c.args.pending.now in
    let stacked = c.args.stacked.now in
    let held = c.args.held.now in
    let sets : SetsMark slot (is_pending_mark c.args.mark) (bit_in pending) (bit_in c.set.new.self) =
    subst (λ b. SetsMark slot b (bit_in pending) (bit_in c.set.new.self)) c.is_pending.ensures c.set.ensures.set in
    let stacks : SetsMark slot (is_stacked c.args.mark) (bit_in stacked) (bit_in c.set-2.new.self) =
    subst (λ b. SetsMark slot b (bit_in stacked) (bit_in c.set-2.new.self)) c.is_stacked.ensures c.set-2.ensures.set in
    let holds : SetsMark slot (is_held c.args.mark) (bit_in held) (bit_in c.set-3.new.self) =
    subst (λ b. SetsMark slot b (bit_in held) (bit_in c.set-3.new.self)) c.is_held.ensures c.set-3.ensures.set in
    marks-set pending stacked held c.set.new.self c.set-2.new.self c.set-3.new.self slot c.args.mark
    c.requires.marked c.requires.there c.set-2.ensures.len sets c.set.ensures.len stacks holds
