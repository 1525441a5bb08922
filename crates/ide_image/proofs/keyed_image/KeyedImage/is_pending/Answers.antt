use Rattle.std.proofs.Common.{ap, sym, ◌∙◌}
use Rattle.ide_image.specs.KeyedImage.{marked_at}
use Rattle.ide_image.specs.Queue.{pending_at}
use Rattle.ide_image.proofs.Agree.{is-pending}
use Rattle.ide_image.proofs.keyed_image.KeyedImage.is_pending.Goals as goal

pub returns : goal.returns
returns g c =
    rw (← c.self.view_is)
    (c.is_pending_at.ensures ∙ ap (marked_at (pending_at c.self.inside.queue.list)) c.place.ensures.place
    ∙ sym (is-pending c.self.inside.indexed c.self.inside.queue c.self.inside.claims.items c.self.inside.changes c.self.invariant c.args.key))
