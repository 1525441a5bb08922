use Rattle.std.proofs.Common.{ap, sym, ◌∙◌}
use Rattle.ide_image.specs.Worklist.{claim_in, is_claim_of, with_done}
use Rattle.ide_image.proofs.Held.{IsOf-done, IsOf-put}
use Rattle.ide_image.proofs.Agree.{whole-claims}
use Rattle.ide_image.proofs.Before.{claim-put-done}
use Rattle.ide_image.proofs.keyed_image.KeyedImage.set_done.Goals as goal

pub invariant_of-self : goal.invariant_of-self
invariant_of-self g c =
    let inside = c.self.inside in
    let claims = inside.claims.items in
    whole-claims inside.indexed inside.queue claims c.set_done.new.claims.items inside.changes
    (λ h q. ap (is_claim_of q) (c.set_done.ensures h) ∙ claim-put-done (λ j. claim_in claims j) c.args.hand c.args.count h q)
    (λ h d is. IsOf-put (λ j. claim_in claims j) c.args.hand (with_done c.args.count (claim_in claims c.args.hand)) h d (λ e. IsOf-done c.args.count (claim_in claims c.args.hand) e) (sym (c.set_done.ensures h) ∙ is))
    c.self.invariant
