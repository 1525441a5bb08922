use Rattle.ide_image.proofs.Agree.{is-worklist}
use Rattle.ide_image.proofs.keyed_image.KeyedImage.claim.Goals as goal

pub returns-clause-held : goal.returns-clause-held
returns-clause-held g c = rw (← c.self.view_is) (is-worklist c.self.inside.indexed c.self.inside.queue c.self.inside.claims.items c.self.inside.changes c.self.invariant)
