use Rattle.std.proofs.Common.{◌≡◌, ◌+◌, ◌-◌, false, arith, refl, sym, ap, ◌∙◌}
use Rattle.std.specs.Prelude.{◌&&◌, not}
use Rattle.ide_wire.specs.Key.{same_key}
use Rattle.ide_image.specs.KeyedImage.{pending_by_slot}
use Rattle.ide_image.specs.Indexed.{place_of_key}
use Rattle.ide_image.specs.Queue.{SameMarks, held_at, pending_at}
use Rattle.ide_image.proofs.Agree.{at-index, is-pending, pending-long, same-cells, still-cells, unclaimed-free, whole-noted, whole-same, whole-settled}
use Rattle.ide_image.proofs.Before.{at-some, not-cond, note-before}
use Rattle.ide_image.proofs.Marked.{at-set, same-set}
use Rattle.ide_image.proofs.keyed_image.KeyedImage.settle.Goals as goal

pub end_slot-requires-clause-pending : goal.end_slot-requires-clause-pending
end_slot-requires-clause-pending g c =
    let inside = c.self.inside in
    sym (is-pending inside.indexed inside.queue inside.claims.items inside.changes c.self.invariant c.args.key) ∙ (rw (← c.self.view_is) at c.requires.pending)

pub invariant_of-self : goal.invariant_of-self
invariant_of-self g c =
    let inside = c.self.inside in
    whole-same inside.indexed inside.indexed inside.queue c.end_slot.new.queue inside.claims.items inside.changes c.end_slot.new.changes c.in_err-end_slot.ensures.err c.self.invariant

-- the slot's marks are set, and no hand's claim is of it
pub invariant_of-self-2 : goal.invariant_of-self-2
invariant_of-self-2 g c =
    let inside = c.self.inside in
    let key = c.args.key in
    let place = place_of_key inside.indexed key in
    let pends = sym (is-pending inside.indexed inside.queue inside.claims.items inside.changes c.self.invariant key) ∙ (rw (← c.self.view_is) at c.requires.pending) in
    let free = unclaimed-free inside.indexed inside.queue inside.claims.items inside.changes c.self.invariant key (rw (← c.self.view_is) at c.requires.unclaimed) in
    let some = at-some (pending_at inside.queue.list) place pends in
    let slot = place - 1 in
    let stands : slot + 1 ≡ place = omega (arith, some) in
    let after = c.end_slot.new.queue in
    let same : SameMarks (held_at inside.queue.list) (held_at after.list) =
    same-set slot false (held_at inside.queue.list) (held_at after.list) (sym (at-index (held_at inside.queue.list) place slot stands) ∙ free) (c.in_ok-end_slot.ensures.held slot stands) in
    let settled = whole-settled inside.indexed inside.queue after inside.claims.items inside.changes key slot false stands free (λ no. absurd (cc (no)))
    (c.in_ok-end_slot.ensures.pending slot stands) same c.self.invariant in
    whole-noted inside.indexed after inside.claims.items inside.changes c.end_slot.new.changes key _ slot stands
    (c.in_ok-end_slot.ensures.marks slot stands) c.in_ok-end_slot.ensures.list c.in_ok-end_slot.ensures.slots settled

pub returns-clause-pending : goal.returns-clause-pending
returns-clause-pending g c =
    let inside = c.self.inside in
    let key = c.args.key in
    let place = place_of_key inside.indexed key in
    let pends = sym (is-pending inside.indexed inside.queue inside.claims.items inside.changes c.self.invariant key) ∙ (rw (← c.self.view_is) at c.requires.pending) in
    let free = unclaimed-free inside.indexed inside.queue inside.claims.items inside.changes c.self.invariant key (rw (← c.self.view_is) at c.requires.unclaimed) in
    let some = at-some (pending_at inside.queue.list) place pends in
    let slot = place - 1 in
    let stands : slot + 1 ≡ place = omega (arith, some) in
    let after = c.end_slot.new.queue in
    let same : SameMarks (held_at inside.queue.list) (held_at after.list) =
    same-set slot false (held_at inside.queue.list) (held_at after.list) (sym (at-index (held_at inside.queue.list) place slot stands) ∙ free) (c.in_ok-end_slot.ensures.held slot stands) in
    let settled = whole-settled inside.indexed inside.queue after inside.claims.items inside.changes key slot false stands free (λ no. absurd (cc (no)))
    (c.in_ok-end_slot.ensures.pending slot stands) same c.self.invariant in
    rw (← c.self.view_is)
    (λ q.
    is-pending inside.indexed after inside.claims.items inside.changes settled q
    ∙ at-set key inside.indexed.cells slot false (pending_at inside.queue.list) (pending_at after.list) stands (c.in_ok-end_slot.ensures.pending slot stands) q
    ∙ not-cond (same_key key q) (pending_by_slot inside.indexed inside.queue q)
    ∙ ap (λ b. not (same_key key q) && b) (sym (is-pending inside.indexed inside.queue inside.claims.items inside.changes c.self.invariant q)))

pub returns-clause-count : goal.returns-clause-count
returns-clause-count g c =
    let inside = c.self.inside in
    let key = c.args.key in
    let place = place_of_key inside.indexed key in
    let pends = sym (is-pending inside.indexed inside.queue inside.claims.items inside.changes c.self.invariant key) ∙ (rw (← c.self.view_is) at c.requires.pending) in
    let free = unclaimed-free inside.indexed inside.queue inside.claims.items inside.changes c.self.invariant key (rw (← c.self.view_is) at c.requires.unclaimed) in
    let some = at-some (pending_at inside.queue.list) place pends in
    let slot = place - 1 in
    let stands : slot + 1 ≡ place = omega (arith, some) in
    let after = c.end_slot.new.queue in
    let same : SameMarks (held_at inside.queue.list) (held_at after.list) =
    same-set slot false (held_at inside.queue.list) (held_at after.list) (sym (at-index (held_at inside.queue.list) place slot stands) ∙ free) (c.in_ok-end_slot.ensures.held slot stands) in
    let settled = whole-settled inside.indexed inside.queue after inside.claims.items inside.changes key slot false stands free (λ no. absurd (cc (no)))
    (c.in_ok-end_slot.ensures.pending slot stands) same c.self.invariant in
    let first = pending-long inside.indexed inside.queue inside.claims.items inside.changes c.self.invariant in
    let last = pending-long inside.indexed after inside.claims.items inside.changes settled in
    rw (← c.self.view_is) (omega (arith, first, last, c.in_ok-end_slot.ensures.count))

pub returns-clause-noted : goal.returns-clause-noted
returns-clause-noted g c =
    let inside = c.self.inside in
    rw (← c.self.view_is)
    (note-before inside.indexed inside.indexed inside.queue inside.queue inside.claims.items inside.changes inside.changes c.self.invariant
    (same-cells inside.indexed inside.indexed inside.queue inside.changes (still-cells inside.indexed inside.indexed refl) (λ apart. apart)) c.args.key c.end_slot.new.changes.list c.in_ok-end_slot.ensures.list)
