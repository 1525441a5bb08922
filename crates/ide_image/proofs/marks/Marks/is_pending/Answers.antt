use Rattle.std.proofs.Common.{ap, sym, ◌∙◌}
use Rattle.ide_image.specs.Queue.{pending_at}
use Rattle.ide_image.proofs.OfBits.{pending-read}
use Rattle.ide_image.proofs.marks.Marks.is_pending.Goals as goal

pub returns : goal.returns
returns c =
    let m = c.self.inside in
    c.get.ensures
    ∙ sym (pending-read m.pending m.stacked m.held c.args.slot c.self.invariant)
    ∙ ap (λ marks. pending_at marks c.args.slot) c.self.view_is
