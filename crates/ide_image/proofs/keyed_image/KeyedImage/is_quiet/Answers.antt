use Rattle.std.proofs.Common.{sym, ◌∙◌}
use Rattle.std.proofs.lemmas.Bool.{eq-eqb, eqb-true}
use Rattle.ide_image.specs.KeyedImage.{keys_where}
use Rattle.ide_image.specs.Queue.{pending_at}
use Rattle.ide_image.proofs.Agree.{pending-long}
use Rattle.ide_image.proofs.Before.{quiet}
use Rattle.ide_image.proofs.keyed_image.KeyedImage.is_quiet.Goals as goal

pub returns : goal.returns
returns g c =
    let inside = c.self.inside in
    let empty = quiet (keys_where (pending_at inside.queue.list) inside.indexed.cells) c.pending_count.result
    (c.pending_count.ensures ∙ sym (pending-long inside.indexed inside.queue inside.claims.items inside.changes c.self.invariant)) in
    rw (← c.self.view_is) (λ is. empty.0 (eqb-true c.pending_count.result 0 is), λ is. eq-eqb c.pending_count.result 0 (empty.1 is))
