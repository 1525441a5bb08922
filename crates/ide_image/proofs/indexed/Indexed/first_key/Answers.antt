use Rattle.ide_image.proofs.Columns.{begins-if, room-if}
use Rattle.ide_image.proofs.indexed.Indexed.first_key.Goals as goal

pub returns-clause-first : goal.returns-clause-first
returns-clause-first g c =
    rw (← c.self.view_is)
    (begins-if c.self.inside.places c.self.inside.functions.items c.self.invariant.paged c.args.page c.self.inside.functions.room c.key_in.result c.key_in.ensures.key)

pub returns-clause-few : goal.returns-clause-few
returns-clause-few g c = room-if c.self.inside.places c.args.page c.key_in.result c.key_in.ensures.key c.key_in.ensures.fits
