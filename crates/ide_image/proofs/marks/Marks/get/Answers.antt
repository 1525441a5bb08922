use Rattle.std.proofs.Common.{ap, sym, ◌∙◌}
use Rattle.ide_image.specs.Bits.{bit_in, mark_of}
use Rattle.ide_image.specs.Queue.{mark_in}
use Rattle.ide_image.proofs.OfBits.{mark-read}
use Rattle.ide_image.proofs.marks.Marks.get.Goals as goal

pub returns : goal.returns
returns c =
    let m = c.self.inside in
    c.of.ensures
    ∙ ap (λ b. mark_of b c.get-2.result c.get-3.result) c.get.ensures
    ∙ ap (λ b. mark_of (bit_in m.pending c.args.slot) b c.get-3.result) c.get-2.ensures
    ∙ ap (mark_of (bit_in m.pending c.args.slot) (bit_in m.stacked c.args.slot)) c.get-3.ensures
    ∙ sym (mark-read m.pending m.stacked m.held c.args.slot c.self.invariant)
    ∙ ap (λ marks. mark_in marks c.args.slot) c.self.view_is
