use Rattle.ide_image.proofs.Agree.{whole-anew}
use Rattle.ide_image.proofs.keyed_image.KeyedImage.note_anew.Goals as goal

pub invariant_of-self : goal.invariant_of-self
invariant_of-self g c =
    whole-anew c.self.inside.indexed c.self.inside.queue c.self.inside.claims.items c.self.inside.changes c.begin.new.self c.begin.ensures.list c.begin.ensures.slots c.begin.ensures.marks c.self.invariant
