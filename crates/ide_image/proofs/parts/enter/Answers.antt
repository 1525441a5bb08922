use Rattle.std.proofs.Common.{◌+◌, Some, arith, ap, cond, sym, ◌∙◌, length, true, ⊎_elim}
use Rattle.std.proofs.lemmas.Bool.{both_ways, cases_Bool}
use Rattle.std.specs.Option.{is_some}
use Rattle.ide_wire.specs.Key.{same_key, same_key_refl}
use Rattle.ide_image.specs.Tables.{place_in}
use Rattle.ide_image.specs.Worklist.{claim_in, is_claim_of}
use Rattle.ide_image.proofs.Held.{IsOf-marked}
use Rattle.ide_image.specs.KeyedImage.{marked_at, held_by_slot, pending_by_slot}
use Rattle.ide_image.specs.Indexed.{function_of, place_of_key}
use Rattle.ide_image.specs.Queue.{held_at, one_if, pending_at, pending_count}
use Rattle.ide_image.proofs.Agree.{at-index, claim-marked, or-cond, whole-claims, whole-noted, whole-pushed, whole-put}
use Rattle.ide_image.proofs.Marked.{at-put, at-set}
use Rattle.ide_image.proofs.Places.{long-stays}
use Rattle.ide_image.proofs.Shown.{function-with}
use Rattle.ide_image.proofs.Spots.{place-few}
use Rattle.ide_image.proofs.parts.enter.Goals as goal

pub push-is_held-requires-clause-there : goal.push-is_held-requires-clause-there
push-is_held-requires-clause-there g c =
    let few = place-few c.args.key c.args.indexed.now.cells in
    omega (arith, few, c.requires.cell, c.requires.room.marked)

pub mark_held-requires : goal.mark_held-requires
mark_held-requires g c =
    let after = c.put_noted.new.indexed in
    let put = whole-put c.args.indexed.now after c.args.queue.now c.args.claims.now.items c.args.changes.now c.args.key c.args.function c.put_noted.ensures.cells c.requires.whole in
    let noted = whole-noted after c.args.queue.now c.args.claims.now.items c.args.changes.now c.put_noted.new.changes c.args.key _ c.args.cell
    c.put_noted.ensures.stands c.put_noted.ensures.marks c.put_noted.ensures.list c.put_noted.ensures.slots put in
    let there = ap (λ cells. is_some (function_of cells c.args.key)) c.put_noted.ensures.cells
    ∙ ap is_some (function-with c.args.indexed.now.cells c.args.key c.args.key c.args.function)
    ∙ ap (λ b. is_some (cond b (Some c.args.function) (function_of c.args.indexed.now.cells c.args.key))) (same_key_refl c.args.key) in
    let pushed = whole-pushed after c.args.queue.now c.push-is_held.new.self c.args.claims.now.items c.put_noted.new.changes c.args.key c.args.cell
    c.put_noted.ensures.stands there c.push-is_held.ensures.pending c.push-is_held.ensures.held noted in
    let here = at-index (held_at c.push-is_held.new.self.list) (place_of_key after c.args.key) c.args.cell c.put_noted.ensures.stands in
    λ h off.
    ⊎_elim
    (λ is. absurd (both_ways (held_by_slot after c.push-is_held.new.self c.args.key) (here ∙ c.push-is_held.ensures.held c.args.cell ∙ sym c.push-is_held.ensures.claimed ∙ off) (pushed.marked h c.args.key is)))
    (λ no. no)
    (cases_Bool (is_claim_of c.args.key (claim_in c.args.claims.now.items h)))

pub returns-clause-whole : goal.returns-clause-whole
returns-clause-whole g c =
    let after = c.put_noted.new.indexed in
    let put = whole-put c.args.indexed.now after c.args.queue.now c.args.claims.now.items c.args.changes.now c.args.key c.args.function c.put_noted.ensures.cells c.requires.whole in
    let noted = whole-noted after c.args.queue.now c.args.claims.now.items c.args.changes.now c.put_noted.new.changes c.args.key _ c.args.cell
    c.put_noted.ensures.stands c.put_noted.ensures.marks c.put_noted.ensures.list c.put_noted.ensures.slots put in
    let there = ap (λ cells. is_some (function_of cells c.args.key)) c.put_noted.ensures.cells
    ∙ ap is_some (function-with c.args.indexed.now.cells c.args.key c.args.key c.args.function)
    ∙ ap (λ b. is_some (cond b (Some c.args.function) (function_of c.args.indexed.now.cells c.args.key))) (same_key_refl c.args.key) in
    let pushed = whole-pushed after c.args.queue.now c.push-is_held.new.self c.args.claims.now.items c.put_noted.new.changes c.args.key c.args.cell
    c.put_noted.ensures.stands there c.push-is_held.ensures.pending c.push-is_held.ensures.held noted in
    whole-claims after c.push-is_held.new.self c.args.claims.now.items c.mark_held.new.claims.items c.put_noted.new.changes
    (λ h q. ap (is_claim_of q) (c.mark_held.ensures h) ∙ claim-marked c.args.key q (claim_in c.args.claims.now.items h))
    (λ h d is. IsOf-marked c.args.key (claim_in c.args.claims.now.items h) d (sym (c.mark_held.ensures h) ∙ is))
    pushed

pub returns-clause-pending : goal.returns-clause-pending
returns-clause-pending g c = λ q.
    let es = c.args.indexed.now.cells in
    let after = c.put_noted.new.indexed in
    at-set c.args.key after.cells c.args.cell true (pending_at c.args.queue.now.list) (pending_at c.push-is_held.new.self.list) c.put_noted.ensures.stands c.push-is_held.ensures.pending q
    ∙ ap (cond (same_key c.args.key q) true)
    (ap (λ xs. marked_at (pending_at c.args.queue.now.list) (place_in q xs)) c.put_noted.ensures.cells
    ∙ at-put c.args.key es (Some c.args.function) (pending_at c.args.queue.now.list) c.requires.whole.covered q)
    ∙ or-cond (same_key c.args.key q) (pending_by_slot c.args.indexed.now c.args.queue.now q)

pub returns-clause-count : goal.returns-clause-count
returns-clause-count g c =
    let here = sym (at-index (pending_at c.args.queue.now.list) (place_of_key c.args.indexed.now c.args.key) c.args.cell c.requires.cell) in
    ap (λ b. pending_count c.push-is_held.new.self.list + one_if b) (sym here) ∙ c.push-is_held.ensures.count

pub returns-clause-room : goal.returns-clause-room
returns-clause-room g c = λ n room.
    let long = ap length c.put_noted.ensures.cells ∙ long-stays c.args.key c.args.indexed.now.cells (Some c.args.function) c.args.cell c.requires.cell in
    record {
      functions = omega (arith, c.put_noted.ensures.taken, room.functions);
      marked = omega (arith, long, room.marked, c.push-is_held.ensures.covered);
      stacked = omega (arith, room.stacked, c.push-is_held.ensures.room);
      notes = c.put_noted.ensures.notes n (length c.put_noted.new.indexed.cells)
          (record { free = room.notes.free; stamped = λ is. let stamped = room.notes.stamped is in omega (arith, long, stamped) });
    }
