use Rattle.std.proofs.Common.{◌≡◌, ◌+◌, ◌-◌, arith, length, refl, sym, ap, ◌∙◌}
use Rattle.ide_wire.specs.Key.{same_key_refl}
use Rattle.ide_image.specs.Worklist.{claim_in, is_claim_of}
use Rattle.ide_image.proofs.Held.{held_gone, held_same}
use Rattle.ide_image.specs.KeyedImage.{pending_by_slot}
use Rattle.ide_image.specs.Indexed.{place_of_key}
use Rattle.ide_image.specs.Queue.{held_at, pending_at}
use Rattle.ide_image.proofs.Agree.{at-index, whole-gone}
use Rattle.ide_image.proofs.Before.{at-some}
use Rattle.ide_image.proofs.Marked.{at-same, covers-same, keys-same}
use Rattle.ide_image.proofs.keyed_image.KeyedImage.release.Goals as goal

pub overflow_sub-slot : goal.overflow_sub-slot
overflow_sub-slot g c =
    let inside = c.self.inside in
    let claim = c.in_ok-key.field-0.now in
    let there = sym (c.in_ok-key.ensures ∙ ap (λ cs. claim_in cs c.args.hand) c.deref.ensures.value) in
    let held = c.self.invariant.marked c.args.hand claim.key (ap (is_claim_of claim.key) there ∙ same_key_refl claim.key) in
    let some = at-some (held_at inside.queue.list) (place_of_key inside.indexed claim.key) held in
    omega (arith, some, c.place-slot.ensures.place)

pub release-requires : goal.release-requires
release-requires g c =
    let inside = c.self.inside in
    let claim = c.in_ok-key.field-0.now in
    let there = sym (c.in_ok-key.ensures ∙ ap (λ cs. claim_in cs c.args.hand) c.deref.ensures.value) in
    let held = c.self.invariant.marked c.args.hand claim.key (ap (is_claim_of claim.key) there ∙ same_key_refl claim.key) in
    let some = at-some (held_at inside.queue.list) (place_of_key inside.indexed claim.key) held in
    let stands : (c.place-slot.result - 1) + 1 ≡ place_of_key inside.indexed claim.key = omega (arith, some, c.place-slot.ensures.place) in
    record { held = sym (at-index (held_at inside.queue.list) (place_of_key inside.indexed claim.key) (c.place-slot.result - 1) stands) ∙ held }

pub invariant_of-self : goal.invariant_of-self
invariant_of-self g c =
    let inside = c.self.inside in
    let claim = c.in_ok-key.field-0.now in
    let there = sym (c.in_ok-key.ensures ∙ ap (λ cs. claim_in cs c.args.hand) c.deref.ensures.value) in
    let held = c.self.invariant.marked c.args.hand claim.key (ap (is_claim_of claim.key) there ∙ same_key_refl claim.key) in
    let some = at-some (held_at inside.queue.list) (place_of_key inside.indexed claim.key) held in
    let stands : (c.place-slot.result - 1) + 1 ≡ place_of_key inside.indexed claim.key = omega (arith, some, c.place-slot.ensures.place) in
    let after = c.release.new.self in
    whole-gone inside.indexed inside.queue after inside.claims.items c.take_claim.new.claims.items inside.changes c.args.hand claim (c.place-slot.result - 1) stands there
    c.take_claim.ensures.after c.release.ensures.held
    (covers-same (length inside.indexed.cells) (pending_at inside.queue.list) (pending_at after.list) c.release.ensures.pending c.self.invariant.covered)
    (held_same (pending_by_slot inside.indexed inside.queue) (pending_by_slot inside.indexed after) (λ h. claim_in c.take_claim.new.claims.items h) (λ h. claim_in c.take_claim.new.claims.items h)
    (λ q is. at-same (pending_at inside.queue.list) (pending_at after.list) (place_of_key inside.indexed q) c.release.ensures.pending ∙ is) (λ h d is. (d, is, refl))
    (held_gone (pending_by_slot inside.indexed inside.queue) (λ h. claim_in inside.claims.items h) (λ h. claim_in c.take_claim.new.claims.items h) c.args.hand c.take_claim.ensures.after c.self.invariant.held))
    (λ q is. sym (at-same (pending_at inside.queue.list) (pending_at after.list) (place_of_key inside.indexed q) c.release.ensures.pending) ∙ is)
    c.self.invariant

pub returns-clause-pending : goal.returns-clause-pending
returns-clause-pending g c =
    rw (← c.self.view_is) (keys-same (pending_at c.self.inside.queue.list) (pending_at c.release.new.self.list) c.self.inside.indexed.cells c.release.ensures.pending)
