use Rattle.std.proofs.Common.{sym, ◌∙◌}
use Rattle.ide_image.specs.Indexed.{place_of_key}
use Rattle.ide_image.specs.Queue.{held_at, pending_at}
use Rattle.ide_image.proofs.Held.{apart_at}
use Rattle.ide_image.proofs.Agree.{any-at, at-index, free-unclaimed, is-pending}
use Rattle.ide_image.proofs.Before.{at-held, present-slot, waiting-is}
use Rattle.ide_image.proofs.Shown.{found-shown}
use Rattle.ide_image.proofs.keyed_image.KeyedImage.unclaimed_entry.Goals as goal

pub returns-in_err-slot-clause-none : goal.returns-in_err-slot-clause-none
returns-in_err-slot-clause-none g c =
    let inside = c.self.inside in
    rw (c.from_residual.ensures, ← c.self.view_is)
    (λ q is.
    let held = at-held inside.queue.list (place_of_key inside.indexed q) c.in_err-slot.ensures.none (sym (is-pending inside.indexed inside.queue inside.claims.items inside.changes c.self.invariant q) ∙ is) in
    let at = c.self.invariant.taken q held in
    any-at q inside.claims.items at.0 at.1)

pub returns-clause-pending : goal.returns-clause-pending
returns-clause-pending g c =
    let inside = c.self.inside in
    let key = c.in_ok-entry.entry.0 in
    let waits = waiting-is inside.queue.list c.in_ok-slot.slot c.in_ok-slot.ensures.waits in
    rw (← c.self.view_is)
    (is-pending inside.indexed inside.queue inside.claims.items inside.changes c.self.invariant key
    ∙ at-index (pending_at inside.queue.list) (place_of_key inside.indexed key) c.in_ok-slot.slot (sym c.in_ok-entry.ensures.place) ∙ waits.0)

pub returns-clause-unclaimed : goal.returns-clause-unclaimed
returns-clause-unclaimed g c =
    let inside = c.self.inside in
    let key = c.in_ok-entry.entry.0 in
    let waits = waiting-is inside.queue.list c.in_ok-slot.slot c.in_ok-slot.ensures.waits in
    rw (← c.self.view_is)
    (free-unclaimed inside.indexed inside.queue inside.claims.items inside.changes c.self.invariant key
    (at-index (held_at inside.queue.list) (place_of_key inside.indexed key) c.in_ok-slot.slot (sym c.in_ok-entry.ensures.place) ∙ waits.1))

pub returns-clause-free : goal.returns-clause-free
returns-clause-free g c =
    let inside = c.self.inside in
    let key = c.in_ok-entry.entry.0 in
    let waits = waiting-is inside.queue.list c.in_ok-slot.slot c.in_ok-slot.ensures.waits in
    rw (← c.self.view_is)
    (apart_at key inside.claims.items
    (free-unclaimed inside.indexed inside.queue inside.claims.items inside.changes c.self.invariant key
    (at-index (held_at inside.queue.list) (place_of_key inside.indexed key) c.in_ok-slot.slot (sym c.in_ok-entry.ensures.place) ∙ waits.1)))

pub returns-in_err-entry-clause-none : goal.returns-in_err-entry-clause-none
returns-in_err-entry-clause-none g c =
    let inside = c.self.inside in
    let waits = waiting-is inside.queue.list c.in_ok-slot.slot c.in_ok-slot.ensures.waits in
    absurd (present-slot inside.indexed inside.queue inside.claims.items inside.changes c.self.invariant c.in_ok-slot.slot waits.0 (sym c.in_err-entry.ensures.entry))

pub returns-clause-function : goal.returns-clause-function
returns-clause-function g c =
    let inside = c.self.inside in
    rw (← c.self.view_is) (found-shown inside.indexed.cells c.in_ok-entry.entry.0 c.self.invariant.distinct ∙ c.in_ok-entry.ensures.present)
