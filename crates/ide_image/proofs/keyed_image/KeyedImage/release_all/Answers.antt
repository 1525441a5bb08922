use Rattle.ide_image.proofs.Agree.{whole-free}
use Rattle.ide_image.proofs.keyed_image.KeyedImage.release_all.Goals as goal

pub invariant_of-self : goal.invariant_of-self
invariant_of-self g c =
    let inside = c.self-2.inside in
    whole-free inside.indexed inside.queue inside.claims.items inside.changes c.clear.new.self.items c.clear.ensures.items
    (rw (← c.self-2.view_is) at c.release_each.ensures.free) c.self-2.invariant
