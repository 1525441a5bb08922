use Rattle.ide_image.specs.Walk.{jump_behind}
use Rattle.ide_image.proofs.Walked.{absent-settled}
use Rattle.ide_image.proofs.keyed_image.KeyedImage.absent_behind.Goals as goal

pub returns-clause-settled : goal.returns-clause-settled
returns-clause-settled g c =
    let inside = c.self.inside in
    rw (← c.self.view_is)
    (absent-settled inside.indexed inside.queue inside.claims.items inside.changes (jump_behind c.args.node c.args.from c.args.to) c.absent_behind.result
    c.self.invariant c.absent_behind.ensures.absent)
