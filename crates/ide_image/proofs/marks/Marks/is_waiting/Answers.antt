use Rattle.std.proofs.Common.{ap, sym, ◌∙◌}
use Rattle.std.specs.Prelude.{◌&&◌, not}
use Rattle.ide_image.specs.Bits.{bit_in}
use Rattle.ide_image.specs.Queue.{waiting_at}
use Rattle.ide_image.proofs.OfBits.{waiting-read}
use Rattle.ide_image.proofs.marks.Marks.is_waiting.Goals as goal

pub returns-then-get : goal.returns-then-get
returns-then-get c =
    let m = c.self.inside in
    ap not c.get-then-get.ensures
    ∙ sym (ap (λ b. b && not (bit_in m.held c.args.slot)) (sym c.get.ensures ∙ c.if-get.true))
    ∙ sym (waiting-read m.pending m.stacked m.held c.args.slot c.self.invariant)
    ∙ ap (λ marks. waiting_at marks c.args.slot) c.self.view_is

pub returns-else-get : goal.returns-else-get
returns-else-get c =
    let m = c.self.inside in
    c.if-get.false
    ∙ sym (ap (λ b. b && not (bit_in m.held c.args.slot)) (sym c.get.ensures ∙ c.if-get.false))
    ∙ sym (waiting-read m.pending m.stacked m.held c.args.slot c.self.invariant)
    ∙ ap (λ marks. waiting_at marks c.args.slot) c.self.view_is
