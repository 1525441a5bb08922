use Rattle.ide_image.proofs.Agree.{whole-anew}
use Rattle.ide_image.proofs.keyed_image.KeyedImage.take_changes.Goals as goal

pub invariant_of-self : goal.invariant_of-self
invariant_of-self g c =
    whole-anew c.self.inside.indexed c.self.inside.queue c.self.inside.claims.items c.self.inside.changes c.take.new.self c.take.ensures.list c.take.ensures.slots c.take.ensures.marks c.self.invariant
