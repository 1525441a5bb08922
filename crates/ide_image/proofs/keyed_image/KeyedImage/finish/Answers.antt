use Rattle.std.proofs.Common.{◌≡◌, ◌+◌, ◌-◌, false, arith, refl, sym, ap, ◌∙◌}
use Rattle.std.specs.Prelude.{◌&&◌, not}
use Rattle.std.specs.List.{list_any}
use Rattle.ide_wire.specs.declared.key.Key.{Key}
use Rattle.ide_wire.specs.Key.{same_key, same_key_refl}
use Rattle.ide_image.specs.Worklist.{claim_in, ends, ends_key, is_claim_of}
use Rattle.ide_image.specs.Tables.{found}
use Rattle.ide_image.proofs.Held.{held_settled}
use Rattle.ide_image.specs.KeyedImage.{keys_where, pending_by_slot}
use Rattle.ide_image.specs.Indexed.{place_of_key, table_of}
use Rattle.ide_image.specs.Notes.{ended_key, with_change}
use Rattle.ide_image.specs.Queue.{held_at, one_if, pending_at}
use Rattle.ide_image.proofs.Agree.{is-pending, is-worklist, pending-long, same-cells, still-cells, second-of, whole-gone, whole-noted, whole-same}
use Rattle.ide_image.proofs.Before.{at-open, at-some, ended-claim, ended-ends, ended-out, not-cond, note-before}
use Rattle.ide_image.proofs.Marked.{at-set, covers-set}
use Rattle.ide_image.proofs.keyed_image.KeyedImage.finish.Goals as goal

pub returns-in_default-clause-held : goal.returns-in_default-clause-held
returns-in_default-clause-held g c =
    let inside = c.self.inside in
    rw (← c.self.view_is) (is-worklist inside.indexed inside.queue inside.claims.items inside.changes c.self.invariant)

pub returns-in_err-end_slot-clause-held : goal.returns-in_err-end_slot-clause-held
returns-in_err-end_slot-clause-held g c =
    let inside = c.self.inside in
    rw (← c.self.view_is) (is-worklist inside.indexed inside.queue inside.claims.items inside.changes c.self.invariant)

pub returns-clause-held : goal.returns-clause-held
returns-clause-held g c =
    let inside = c.self.inside in
    rw (← c.self.view_is) (is-worklist inside.indexed inside.queue inside.claims.items inside.changes c.self.invariant)

pub end_slot-requires-clause-pending : goal.end_slot-requires-clause-pending
end_slot-requires-clause-pending g c =
    let inside = c.self.inside in
    let hand = c.args.hand in
    let key = c.in-Some.ended in
    let ended = sym (c.in-Some.ensures ∙ ap (λ cs. ended_key (claim_in cs hand)) c.deref.ensures.value) in
    let claim = ended-claim (claim_in inside.claims.items hand) key ended in
    let held = c.self.invariant.marked hand key (ap (is_claim_of key) claim.1 ∙ ap (λ k. same_key k key) claim.2 ∙ same_key_refl key) in
    at-open inside.queue.list (place_of_key inside.indexed key) held

pub invariant_of-self : goal.invariant_of-self
invariant_of-self g c =
    let inside = c.self.inside in
    whole-same inside.indexed inside.indexed inside.queue c.end_slot.new.queue inside.claims.items inside.changes c.end_slot.new.changes c.in_err-end_slot.ensures.err c.self.invariant

pub invariant_of-self-2 : goal.invariant_of-self-2
invariant_of-self-2 g c =
    let inside = c.self.inside in
    let hand = c.args.hand in
    let key = c.in-Some.ended in
    let ended = sym (c.in-Some.ensures ∙ ap (λ cs. ended_key (claim_in cs hand)) c.deref.ensures.value) in
    let claim = ended-claim (claim_in inside.claims.items hand) key ended in
    let held = c.self.invariant.marked hand key (ap (is_claim_of key) claim.1 ∙ ap (λ k. same_key k key) claim.2 ∙ same_key_refl key) in
    let place = place_of_key inside.indexed key in
    let some = at-some (held_at inside.queue.list) place held in
    let slot = place - 1 in
    let stands : slot + 1 ≡ place = omega (arith, some) in
    let after = c.end_slot.new.queue in
    let left = c.take_claim.new.claims.items in
    let pends : (q : Key) → pending_by_slot inside.indexed after q ≡ (not (same_key key q) && pending_by_slot inside.indexed inside.queue q) =
    λ q. at-set key inside.indexed.cells slot false (pending_at inside.queue.list) (pending_at after.list) stands (c.in_ok-end_slot.ensures.pending slot stands) q
    ∙ not-cond (same_key key q) (pending_by_slot inside.indexed inside.queue q) in
    let gone = whole-gone inside.indexed inside.queue after inside.claims.items left inside.changes hand claim.0 slot
    (stands ∙ ap (place_of_key inside.indexed) (sym claim.2)) claim.1 c.take_claim.ensures.after (c.in_ok-end_slot.ensures.held slot stands)
    (covers-set key inside.indexed.cells slot false (pending_at inside.queue.list) (pending_at after.list) stands (c.in_ok-end_slot.ensures.pending slot stands) c.self.invariant.covered)
    (held_settled (pending_by_slot inside.indexed inside.queue) (pending_by_slot inside.indexed after) (λ h. claim_in inside.claims.items h) (λ h. claim_in left h) hand claim.0 claim.1 c.take_claim.ensures.after
    (λ q. pends q ∙ ap (λ k. not (same_key k q) && pending_by_slot inside.indexed inside.queue q) (sym claim.2)) c.self.invariant.held)
    (λ q is. second-of (same_key key q) (pending_by_slot inside.indexed inside.queue q) (sym (pends q) ∙ is))
    c.self.invariant in
    let whole = whole-noted inside.indexed after left inside.changes c.end_slot.new.changes key _ slot stands
    (c.in_ok-end_slot.ensures.marks slot stands) c.in_ok-end_slot.ensures.list c.in_ok-end_slot.ensures.slots gone in
    whole

pub returns-clause-pending : goal.returns-clause-pending
returns-clause-pending g c =
    let inside = c.self.inside in
    let hand = c.args.hand in
    let key = c.in-Some.ended in
    let ended = sym (c.in-Some.ensures ∙ ap (λ cs. ended_key (claim_in cs hand)) c.deref.ensures.value) in
    let claim = ended-claim (claim_in inside.claims.items hand) key ended in
    let held = c.self.invariant.marked hand key (ap (is_claim_of key) claim.1 ∙ ap (λ k. same_key k key) claim.2 ∙ same_key_refl key) in
    let place = place_of_key inside.indexed key in
    let some = at-some (held_at inside.queue.list) place held in
    let slot = place - 1 in
    let stands : slot + 1 ≡ place = omega (arith, some) in
    let after = c.end_slot.new.queue in
    let left = c.take_claim.new.claims.items in
    let pends : (q : Key) → pending_by_slot inside.indexed after q ≡ (not (same_key key q) && pending_by_slot inside.indexed inside.queue q) =
    λ q. at-set key inside.indexed.cells slot false (pending_at inside.queue.list) (pending_at after.list) stands (c.in_ok-end_slot.ensures.pending slot stands) q
    ∙ not-cond (same_key key q) (pending_by_slot inside.indexed inside.queue q) in
    let gone = whole-gone inside.indexed inside.queue after inside.claims.items left inside.changes hand claim.0 slot
    (stands ∙ ap (place_of_key inside.indexed) (sym claim.2)) claim.1 c.take_claim.ensures.after (c.in_ok-end_slot.ensures.held slot stands)
    (covers-set key inside.indexed.cells slot false (pending_at inside.queue.list) (pending_at after.list) stands (c.in_ok-end_slot.ensures.pending slot stands) c.self.invariant.covered)
    (held_settled (pending_by_slot inside.indexed inside.queue) (pending_by_slot inside.indexed after) (λ h. claim_in inside.claims.items h) (λ h. claim_in left h) hand claim.0 claim.1 c.take_claim.ensures.after
    (λ q. pends q ∙ ap (λ k. not (same_key k q) && pending_by_slot inside.indexed inside.queue q) (sym claim.2)) c.self.invariant.held)
    (λ q is. second-of (same_key key q) (pending_by_slot inside.indexed inside.queue q) (sym (pends q) ∙ is))
    c.self.invariant in
    let whole = whole-noted inside.indexed after left inside.changes c.end_slot.new.changes key _ slot stands
    (c.in_ok-end_slot.ensures.marks slot stands) c.in_ok-end_slot.ensures.list c.in_ok-end_slot.ensures.slots gone in
    rw (← c.self.view_is)
    (λ q.
    is-pending inside.indexed after left c.end_slot.new.changes whole q ∙ pends q
    ∙ ap (λ b. not b && pending_by_slot inside.indexed inside.queue q) (sym (ended-ends (claim_in inside.claims.items hand) key q ended))
    ∙ ap (λ b. not (ends (claim_in inside.claims.items hand) q) && b) (sym (is-pending inside.indexed inside.queue inside.claims.items inside.changes c.self.invariant q)))

pub returns-clause-count : goal.returns-clause-count
returns-clause-count g c =
    let inside = c.self.inside in
    let hand = c.args.hand in
    let key = c.in-Some.ended in
    let ended = sym (c.in-Some.ensures ∙ ap (λ cs. ended_key (claim_in cs hand)) c.deref.ensures.value) in
    let claim = ended-claim (claim_in inside.claims.items hand) key ended in
    let held = c.self.invariant.marked hand key (ap (is_claim_of key) claim.1 ∙ ap (λ k. same_key k key) claim.2 ∙ same_key_refl key) in
    let place = place_of_key inside.indexed key in
    let some = at-some (held_at inside.queue.list) place held in
    let slot = place - 1 in
    let stands : slot + 1 ≡ place = omega (arith, some) in
    let after = c.end_slot.new.queue in
    let left = c.take_claim.new.claims.items in
    let pends : (q : Key) → pending_by_slot inside.indexed after q ≡ (not (same_key key q) && pending_by_slot inside.indexed inside.queue q) =
    λ q. at-set key inside.indexed.cells slot false (pending_at inside.queue.list) (pending_at after.list) stands (c.in_ok-end_slot.ensures.pending slot stands) q
    ∙ not-cond (same_key key q) (pending_by_slot inside.indexed inside.queue q) in
    let gone = whole-gone inside.indexed inside.queue after inside.claims.items left inside.changes hand claim.0 slot
    (stands ∙ ap (place_of_key inside.indexed) (sym claim.2)) claim.1 c.take_claim.ensures.after (c.in_ok-end_slot.ensures.held slot stands)
    (covers-set key inside.indexed.cells slot false (pending_at inside.queue.list) (pending_at after.list) stands (c.in_ok-end_slot.ensures.pending slot stands) c.self.invariant.covered)
    (held_settled (pending_by_slot inside.indexed inside.queue) (pending_by_slot inside.indexed after) (λ h. claim_in inside.claims.items h) (λ h. claim_in left h) hand claim.0 claim.1 c.take_claim.ensures.after
    (λ q. pends q ∙ ap (λ k. not (same_key k q) && pending_by_slot inside.indexed inside.queue q) (sym claim.2)) c.self.invariant.held)
    (λ q is. second-of (same_key key q) (pending_by_slot inside.indexed inside.queue q) (sym (pends q) ∙ is))
    c.self.invariant in
    let whole = whole-noted inside.indexed after left inside.changes c.end_slot.new.changes key _ slot stands
    (c.in_ok-end_slot.ensures.marks slot stands) c.in_ok-end_slot.ensures.list c.in_ok-end_slot.ensures.slots gone in
    let first = pending-long inside.indexed inside.queue inside.claims.items inside.changes c.self.invariant in
    let last = pending-long inside.indexed after left c.end_slot.new.changes whole in
    let one : one_if (ends_key (claim_in inside.claims.items hand)) ≡ 1 = ap one_if (ended-out (claim_in inside.claims.items hand) key ended) in
    rw (← c.self.view_is) (omega (arith, first, last, one, c.in_ok-end_slot.ensures.count))

pub returns-clause-noted : goal.returns-clause-noted
returns-clause-noted g c =
    let inside = c.self.inside in
    let hand = c.args.hand in
    let key = c.in-Some.ended in
    let ended = sym (c.in-Some.ensures ∙ ap (λ cs. ended_key (claim_in cs hand)) c.deref.ensures.value) in
    let claim = ended-claim (claim_in inside.claims.items hand) key ended in
    let held = c.self.invariant.marked hand key (ap (is_claim_of key) claim.1 ∙ ap (λ k. same_key k key) claim.2 ∙ same_key_refl key) in
    let note = note-before inside.indexed inside.indexed inside.queue inside.queue inside.claims.items inside.changes inside.changes c.self.invariant
    (same-cells inside.indexed inside.indexed inside.queue inside.changes (still-cells inside.indexed inside.indexed refl) (λ apart. apart)) key c.end_slot.new.changes.list c.in_ok-end_slot.ensures.list in
    rw (← c.self.view_is)
    (note
    ∙ ap (λ k. with_change inside.changes.list k (λ q. record { function = found (table_of inside.indexed.cells) q; pending = list_any (same_key q) (keys_where (pending_at inside.queue.list) inside.indexed.cells) })) (sym ended))
