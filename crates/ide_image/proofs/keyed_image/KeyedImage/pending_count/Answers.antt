use Rattle.std.proofs.Common.{sym, ◌∙◌}
use Rattle.ide_image.proofs.Agree.{pending-long}
use Rattle.ide_image.proofs.keyed_image.KeyedImage.pending_count.Goals as goal

pub returns : goal.returns
returns g c = rw (← c.self.view_is) (c.pending_count.ensures ∙ sym (pending-long c.self.inside.indexed c.self.inside.queue c.self.inside.claims.items c.self.inside.changes c.self.invariant))
