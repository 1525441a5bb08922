use Rattle.std.proofs.Common.{◌≡◌, ◌+◌, ◌-◌, false, ap, refl, subst, sym, ◌∙◌, arith}
use Rattle.ide_image.specs.KeyedImage.{AreParts}
use Rattle.ide_image.specs.Worklist.{is_claim_of}
use Rattle.ide_image.specs.Indexed.{place_of_key}
use Rattle.ide_image.specs.Queue.{held_at, mark_in, pending_at}
use Rattle.ide_image.proofs.Agree.{at-index, is-pending, unclaimed-free, whole-claims, whole-taken}
use Rattle.ide_image.proofs.Before.{at-some, waits-is}
use Rattle.ide_image.proofs.Marked.{keys-same}
use Rattle.ide_image.proofs.keyed_image.KeyedImage.take.Goals as goal

pub invariant_of-self : goal.invariant_of-self
invariant_of-self g c =
    let inside = c.self.inside in
    whole-claims inside.indexed inside.queue inside.claims.items c.grow.new.claims.items inside.changes
    (λ h q. ap (is_claim_of q) (c.grow.ensures.same h)) (λ h d is. (d, sym (c.grow.ensures.same h) ∙ is, refl)) c.self.invariant

pub overflow_sub-slot : goal.overflow_sub-slot
overflow_sub-slot g c =
    let inside = c.self.inside in
    let pends = sym (is-pending inside.indexed inside.queue inside.claims.items inside.changes c.self.invariant c.args.key) ∙ (rw (← c.self.view_is) at c.requires.pending) in
    let some = at-some (pending_at inside.queue.list) (place_of_key inside.indexed c.args.key) pends in
    omega (arith, some, c.place-slot.ensures.place)

pub hold-requires : goal.hold-requires
hold-requires g c =
    let inside = c.self.inside in
    let pends = sym (is-pending inside.indexed inside.queue inside.claims.items inside.changes c.self.invariant c.args.key) ∙ (rw (← c.self.view_is) at c.requires.pending) in
    let free = unclaimed-free inside.indexed inside.queue inside.claims.items inside.changes c.self.invariant c.args.key (rw (← c.self.view_is) at c.requires.unclaimed) in
    let some = at-some (pending_at inside.queue.list) (place_of_key inside.indexed c.args.key) pends in
    let stands : (c.place-slot.result - 1) + 1 ≡ place_of_key inside.indexed c.args.key = omega (arith, some, c.place-slot.ensures.place) in
    record {
      waits = waits-is (mark_in inside.queue.list (c.place-slot.result - 1))
          (sym (at-index (pending_at inside.queue.list) (place_of_key inside.indexed c.args.key) (c.place-slot.result - 1) stands) ∙ pends)
          (sym (at-index (held_at inside.queue.list) (place_of_key inside.indexed c.args.key) (c.place-slot.result - 1) stands) ∙ free);
    }

pub invariant_of-self-in_err-hold : goal.invariant_of-self-in_err-hold
invariant_of-self-in_err-hold g c =
    let inside = c.self.inside in
    subst (λ queue. AreParts inside.indexed queue c.grow.new.claims.items inside.changes) (sym c.in_err-hold.ensures.err)
    (whole-claims inside.indexed inside.queue inside.claims.items c.grow.new.claims.items inside.changes
    (λ h q. ap (is_claim_of q) (c.grow.ensures.same h)) (λ h d is. (d, sym (c.grow.ensures.same h) ∙ is, refl)) c.self.invariant)

pub invariant_of-self-2 : goal.invariant_of-self-2
invariant_of-self-2 g c =
    let inside = c.self.inside in
    let pends = sym (is-pending inside.indexed inside.queue inside.claims.items inside.changes c.self.invariant c.args.key) ∙ (rw (← c.self.view_is) at c.requires.pending) in
    let free = unclaimed-free inside.indexed inside.queue inside.claims.items inside.changes c.self.invariant c.args.key (rw (← c.self.view_is) at c.requires.unclaimed) in
    let some = at-some (pending_at inside.queue.list) (place_of_key inside.indexed c.args.key) pends in
    let stands : (c.place-slot.result - 1) + 1 ≡ place_of_key inside.indexed c.args.key = omega (arith, some, c.place-slot.ensures.place) in
    whole-taken inside.indexed inside.queue c.hold.new.self c.grow.new.claims.items c.set_claim.new.claims.items inside.changes c.args.hand
    (record { key = c.args.key; task = c.args.task; done = 0; lowered = false }) (c.place-slot.result - 1) stands
    (c.grow.ensures.same c.args.hand ∙ (rw (← c.self.view_is) at c.requires.free)) c.set_claim.ensures pends free c.in_ok-hold.ensures.held.held c.in_ok-hold.ensures.held.pending
    (whole-claims inside.indexed inside.queue inside.claims.items c.grow.new.claims.items inside.changes
    (λ h q. ap (is_claim_of q) (c.grow.ensures.same h)) (λ h d is. (d, sym (c.grow.ensures.same h) ∙ is, refl)) c.self.invariant)

pub returns-clause-pending : goal.returns-clause-pending
returns-clause-pending g c =
    let inside = c.self.inside in
    rw (← c.self.view_is) (keys-same (pending_at inside.queue.list) (pending_at c.hold.new.self.list) inside.indexed.cells c.in_ok-hold.ensures.held.pending)
