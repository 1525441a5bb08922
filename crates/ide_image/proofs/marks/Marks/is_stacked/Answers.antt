use Rattle.std.proofs.Common.{ap, sym, ◌∙◌}
use Rattle.std.specs.Prelude.{◌&&◌, ◌||◌, not}
use Rattle.ide_image.specs.Bits.{bit_in}
use Rattle.ide_image.specs.Queue.{stacked_at, waiting_at}
use Rattle.ide_image.proofs.OfBits.{stacked-read, waiting-read}
use Rattle.ide_image.proofs.marks.Marks.is_stacked.Goals as goal

pub returns-then-get : goal.returns-then-get
returns-then-get c =
    let m = c.self.inside in
    c.if-get.true
    ∙ sym (ap (λ b. b || (bit_in m.pending c.args.slot && not (bit_in m.held c.args.slot))) (sym c.get.ensures ∙ c.if-get.true))
    ∙ sym (stacked-read m.pending m.stacked m.held c.args.slot c.self.invariant)
    ∙ ap (λ marks. stacked_at marks c.args.slot) c.self.view_is

pub returns-else-get : goal.returns-else-get
returns-else-get c =
    let m = c.self.inside in
    c.is_waiting.ensures
    ∙ sym (ap (λ marks. waiting_at marks c.args.slot) c.self.view_is)
    ∙ waiting-read m.pending m.stacked m.held c.args.slot c.self.invariant
    ∙ sym (ap (λ b. b || (bit_in m.pending c.args.slot && not (bit_in m.held c.args.slot))) (sym c.get.ensures ∙ c.if-get.false))
    ∙ sym (stacked-read m.pending m.stacked m.held c.args.slot c.self.invariant)
    ∙ ap (λ marks. stacked_at marks c.args.slot) c.self.view_is
