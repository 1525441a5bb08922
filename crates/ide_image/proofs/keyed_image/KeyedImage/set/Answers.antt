use Rattle.std.proofs.Common.{Some, ap, cond, length, sym, ◌∙◌, arith}
use Rattle.ide_wire.specs.Key.{same_key, same_key_refl}
use Rattle.ide_image.specs.Tables.{place_in}
use Rattle.std.specs.Option.{is_some}
use Rattle.ide_image.specs.KeyedImage.{marked_at}
use Rattle.ide_image.specs.Indexed.{function_of, place_of_key}
use Rattle.ide_image.specs.Queue.{held_at, pending_at}
use Rattle.ide_image.proofs.Agree.{image-same, on-err, at-index, cell-same, same-cells, same-then, unclaimed-free, whole-noted, whole-put, whole-same, whole-settled}
use Rattle.ide_image.proofs.Before.{counts-before, note-before, pending-set, sets-before, spends-before}
use Rattle.ide_image.proofs.Marked.{at-put, at-set}
use Rattle.ide_image.proofs.Places.{long-stays}
use Rattle.ide_image.proofs.Shown.{few-shown, function-with}
use Rattle.ide_image.proofs.Spots.{place-few}
use Rattle.ide_image.proofs.keyed_image.KeyedImage.set.Goals as goal

pub invariant_of-self-in_err-make_room : goal.invariant_of-self-in_err-make_room
invariant_of-self-in_err-make_room g c =
    let inside = c.self.inside in
    let grown = same-cells inside.indexed c.make_cell.new.self inside.queue inside.changes c.make_cell.ensures.widens (λ _. c.make_cell.ensures.distinct) in
    let same = same-then inside.indexed c.make_cell.new.self c.make_room.new.indexed inside.queue inside.queue c.make_room.new.queue inside.changes inside.changes c.make_room.new.changes grown c.make_room.ensures.same in
    let whole = whole-same inside.indexed c.make_room.new.indexed inside.queue c.make_room.new.queue inside.claims.items inside.changes c.make_room.new.changes same c.self.invariant in
    whole

pub put_noted-requires-clause-cell : goal.put_noted-requires-clause-cell
put_noted-requires-clause-cell g c =
    cell-same c.make_cell.new.self c.make_room.new.indexed c.args.key c.in_ok-cell.cell c.make_room.ensures.same.cells c.in_ok-cell.ensures.cell

pub put_noted-requires-clause-listed : goal.put_noted-requires-clause-listed
put_noted-requires-clause-listed g c =
    let inside = c.self.inside in
    let grown = same-cells inside.indexed c.make_cell.new.self inside.queue inside.changes c.make_cell.ensures.widens (λ _. c.make_cell.ensures.distinct) in
    let same = same-then inside.indexed c.make_cell.new.self c.make_room.new.indexed inside.queue inside.queue c.make_room.new.queue inside.changes inside.changes c.make_room.new.changes grown c.make_room.ensures.same in
    let whole = whole-same inside.indexed c.make_room.new.indexed inside.queue c.make_room.new.queue inside.claims.items inside.changes c.make_room.new.changes same c.self.invariant in
    whole.listed c.args.key

pub set_pending-requires-clause-there : goal.set_pending-requires-clause-there
set_pending-requires-clause-there g c =
    let stands = cell-same c.make_cell.new.self c.make_room.new.indexed c.args.key c.in_ok-cell.cell c.make_room.ensures.same.cells c.in_ok-cell.ensures.cell in
    let few = place-few c.args.key c.make_room.new.indexed.cells in
    omega (arith, few, stands, c.in_ok-make_room.ensures.room.marked)

pub set_pending-requires-clause-free : goal.set_pending-requires-clause-free
set_pending-requires-clause-free g c =
    let inside = c.self.inside in
    let grown = same-cells inside.indexed c.make_cell.new.self inside.queue inside.changes c.make_cell.ensures.widens (λ _. c.make_cell.ensures.distinct) in
    let same = same-then inside.indexed c.make_cell.new.self c.make_room.new.indexed inside.queue inside.queue c.make_room.new.queue inside.changes inside.changes c.make_room.new.changes grown c.make_room.ensures.same in
    let whole = whole-same inside.indexed c.make_room.new.indexed inside.queue c.make_room.new.queue inside.claims.items inside.changes c.make_room.new.changes same c.self.invariant in
    let after = c.put_noted.new.indexed in
    let slot = c.in_ok-cell.cell in
    let put = whole-put c.make_room.new.indexed after c.make_room.new.queue inside.claims.items c.make_room.new.changes c.args.key c.args.f c.put_noted.ensures.cells whole in
    let noted = whole-noted after c.make_room.new.queue inside.claims.items c.make_room.new.changes c.put_noted.new.changes c.args.key _ slot
    c.put_noted.ensures.stands c.put_noted.ensures.marks c.put_noted.ensures.list c.put_noted.ensures.slots put in
    let free = unclaimed-free after c.make_room.new.queue inside.claims.items c.put_noted.new.changes noted c.args.key (rw (← c.self.view_is) at c.requires.unclaimed) in
    sym (at-index (held_at c.make_room.new.queue.list) (place_of_key after c.args.key) slot c.put_noted.ensures.stands) ∙ free

pub invariant_of-self-2 : goal.invariant_of-self-2
invariant_of-self-2 g c =
    let inside = c.self.inside in
    let grown = same-cells inside.indexed c.make_cell.new.self inside.queue inside.changes c.make_cell.ensures.widens (λ _. c.make_cell.ensures.distinct) in
    let same = same-then inside.indexed c.make_cell.new.self c.make_room.new.indexed inside.queue inside.queue c.make_room.new.queue inside.changes inside.changes c.make_room.new.changes grown c.make_room.ensures.same in
    let whole = whole-same inside.indexed c.make_room.new.indexed inside.queue c.make_room.new.queue inside.claims.items inside.changes c.make_room.new.changes same c.self.invariant in
    let after = c.put_noted.new.indexed in
    let slot = c.in_ok-cell.cell in
    let put = whole-put c.make_room.new.indexed after c.make_room.new.queue inside.claims.items c.make_room.new.changes c.args.key c.args.f c.put_noted.ensures.cells whole in
    let noted = whole-noted after c.make_room.new.queue inside.claims.items c.make_room.new.changes c.put_noted.new.changes c.args.key _ slot
    c.put_noted.ensures.stands c.put_noted.ensures.marks c.put_noted.ensures.list c.put_noted.ensures.slots put in
    let free = unclaimed-free after c.make_room.new.queue inside.claims.items c.put_noted.new.changes noted c.args.key (rw (← c.self.view_is) at c.requires.unclaimed) in
    whole-settled after c.make_room.new.queue c.set_pending.new.self inside.claims.items c.put_noted.new.changes c.args.key slot c.args.pending
    c.put_noted.ensures.stands free (λ _. ap (λ cells. is_some (function_of cells c.args.key)) c.put_noted.ensures.cells
    ∙ ap is_some (function-with c.make_room.new.indexed.cells c.args.key c.args.key c.args.f)
    ∙ ap (λ b. is_some (cond b (Some c.args.f) (function_of c.make_room.new.indexed.cells c.args.key))) (same_key_refl c.args.key))
    c.set_pending.ensures.pending c.set_pending.ensures.held noted

pub returns-clause-sets : goal.returns-clause-sets
returns-clause-sets g c =
    let inside = c.self.inside in
    let grown = same-cells inside.indexed c.make_cell.new.self inside.queue inside.changes c.make_cell.ensures.widens (λ _. c.make_cell.ensures.distinct) in
    let same = same-then inside.indexed c.make_cell.new.self c.make_room.new.indexed inside.queue inside.queue c.make_room.new.queue inside.changes inside.changes c.make_room.new.changes grown c.make_room.ensures.same in
    let whole = whole-same inside.indexed c.make_room.new.indexed inside.queue c.make_room.new.queue inside.claims.items inside.changes c.make_room.new.changes same c.self.invariant in
    let after = c.put_noted.new.indexed in
    let slot = c.in_ok-cell.cell in
    let put = whole-put c.make_room.new.indexed after c.make_room.new.queue inside.claims.items c.make_room.new.changes c.args.key c.args.f c.put_noted.ensures.cells whole in
    let noted = whole-noted after c.make_room.new.queue inside.claims.items c.make_room.new.changes c.put_noted.new.changes c.args.key _ slot
    c.put_noted.ensures.stands c.put_noted.ensures.marks c.put_noted.ensures.list c.put_noted.ensures.slots put in
    let free = unclaimed-free after c.make_room.new.queue inside.claims.items c.put_noted.new.changes noted c.args.key (rw (← c.self.view_is) at c.requires.unclaimed) in
    let last = whole-settled after c.make_room.new.queue c.set_pending.new.self inside.claims.items c.put_noted.new.changes c.args.key slot c.args.pending
    c.put_noted.ensures.stands free (λ _. ap (λ cells. is_some (function_of cells c.args.key)) c.put_noted.ensures.cells
    ∙ ap is_some (function-with c.make_room.new.indexed.cells c.args.key c.args.key c.args.f)
    ∙ ap (λ b. is_some (cond b (Some c.args.f) (function_of c.make_room.new.indexed.cells c.args.key))) (same_key_refl c.args.key))
    c.set_pending.ensures.pending c.set_pending.ensures.held noted in
    rw (← c.self.view_is)
    (sets-before inside.indexed c.make_room.new.indexed inside.queue c.make_room.new.queue inside.claims.items inside.changes c.make_room.new.changes c.self.invariant same
    after c.set_pending.new.self inside.claims.items c.put_noted.new.changes c.args.key last c.args.f c.put_noted.ensures.cells)

pub returns-clause-spent : goal.returns-clause-spent
returns-clause-spent g c =
    let inside = c.self.inside in
    let grown = same-cells inside.indexed c.make_cell.new.self inside.queue inside.changes c.make_cell.ensures.widens (λ _. c.make_cell.ensures.distinct) in
    let same = same-then inside.indexed c.make_cell.new.self c.make_room.new.indexed inside.queue inside.queue c.make_room.new.queue inside.changes inside.changes c.make_room.new.changes grown c.make_room.ensures.same in
    rw (← c.self.view_is)
    (spends-before inside.indexed c.make_room.new.indexed inside.queue c.make_room.new.queue inside.claims.items inside.changes c.make_room.new.changes c.self.invariant same
    g.F.EdgeFn.edge c.put_noted.new.indexed c.args.key c.args.f c.put_noted.ensures.cells)

pub returns-clause-count : goal.returns-clause-count
returns-clause-count g c =
    let inside = c.self.inside in
    let grown = same-cells inside.indexed c.make_cell.new.self inside.queue inside.changes c.make_cell.ensures.widens (λ _. c.make_cell.ensures.distinct) in
    let same = same-then inside.indexed c.make_cell.new.self c.make_room.new.indexed inside.queue inside.queue c.make_room.new.queue inside.changes inside.changes c.make_room.new.changes grown c.make_room.ensures.same in
    rw (← c.self.view_is)
    (counts-before inside.indexed c.make_room.new.indexed inside.queue c.make_room.new.queue inside.claims.items inside.changes c.make_room.new.changes c.self.invariant same
    c.put_noted.new.indexed c.args.key c.args.f c.put_noted.ensures.cells)

pub returns-clause-few : goal.returns-clause-few
returns-clause-few g c =
    let stands = cell-same c.make_cell.new.self c.make_room.new.indexed c.args.key c.in_ok-cell.cell c.make_room.ensures.same.cells c.in_ok-cell.ensures.cell in
    let long = ap length c.put_noted.ensures.cells ∙ long-stays c.args.key c.make_room.new.indexed.cells (Some c.args.f) c.in_ok-cell.cell stands in
    let few = few-shown c.put_noted.new.indexed.cells in
    omega (arith, long, few, c.make_room.ensures.bound, c.make_cell.ensures.bound)

pub returns-clause-pending : goal.returns-clause-pending
returns-clause-pending g c =
    let inside = c.self.inside in
    let grown = same-cells inside.indexed c.make_cell.new.self inside.queue inside.changes c.make_cell.ensures.widens (λ _. c.make_cell.ensures.distinct) in
    let same = same-then inside.indexed c.make_cell.new.self c.make_room.new.indexed inside.queue inside.queue c.make_room.new.queue inside.changes inside.changes c.make_room.new.changes grown c.make_room.ensures.same in
    let whole = whole-same inside.indexed c.make_room.new.indexed inside.queue c.make_room.new.queue inside.claims.items inside.changes c.make_room.new.changes same c.self.invariant in
    let after = c.put_noted.new.indexed in
    let slot = c.in_ok-cell.cell in
    let put = whole-put c.make_room.new.indexed after c.make_room.new.queue inside.claims.items c.make_room.new.changes c.args.key c.args.f c.put_noted.ensures.cells whole in
    let noted = whole-noted after c.make_room.new.queue inside.claims.items c.make_room.new.changes c.put_noted.new.changes c.args.key _ slot
    c.put_noted.ensures.stands c.put_noted.ensures.marks c.put_noted.ensures.list c.put_noted.ensures.slots put in
    let free = unclaimed-free after c.make_room.new.queue inside.claims.items c.put_noted.new.changes noted c.args.key (rw (← c.self.view_is) at c.requires.unclaimed) in
    let last = whole-settled after c.make_room.new.queue c.set_pending.new.self inside.claims.items c.put_noted.new.changes c.args.key slot c.args.pending
    c.put_noted.ensures.stands free (λ _. ap (λ cells. is_some (function_of cells c.args.key)) c.put_noted.ensures.cells
    ∙ ap is_some (function-with c.make_room.new.indexed.cells c.args.key c.args.key c.args.f)
    ∙ ap (λ b. is_some (cond b (Some c.args.f) (function_of c.make_room.new.indexed.cells c.args.key))) (same_key_refl c.args.key))
    c.set_pending.ensures.pending c.set_pending.ensures.held noted in
    rw (← c.self.view_is)
    (pending-set inside.indexed c.make_room.new.indexed inside.queue c.make_room.new.queue inside.claims.items inside.changes c.make_room.new.changes c.self.invariant same
    after c.set_pending.new.self inside.claims.items c.put_noted.new.changes c.args.key last c.args.pending
    (λ q.
    at-set c.args.key after.cells slot c.args.pending (pending_at c.make_room.new.queue.list) (pending_at c.set_pending.new.self.list) c.put_noted.ensures.stands c.set_pending.ensures.pending q
    ∙ ap (cond (same_key c.args.key q) c.args.pending)
    (ap (λ xs. marked_at (pending_at c.make_room.new.queue.list) (place_in q xs)) c.put_noted.ensures.cells
    ∙ at-put c.args.key c.make_room.new.indexed.cells (Some c.args.f) (pending_at c.make_room.new.queue.list) whole.covered q)))

pub returns-clause-noted : goal.returns-clause-noted
returns-clause-noted g c =
    let inside = c.self.inside in
    let grown = same-cells inside.indexed c.make_cell.new.self inside.queue inside.changes c.make_cell.ensures.widens (λ _. c.make_cell.ensures.distinct) in
    let same = same-then inside.indexed c.make_cell.new.self c.make_room.new.indexed inside.queue inside.queue c.make_room.new.queue inside.changes inside.changes c.make_room.new.changes grown c.make_room.ensures.same in
    let whole = whole-same inside.indexed c.make_room.new.indexed inside.queue c.make_room.new.queue inside.claims.items inside.changes c.make_room.new.changes same c.self.invariant in
    rw (← c.self.view_is)
    (note-before inside.indexed c.make_room.new.indexed inside.queue c.make_room.new.queue inside.claims.items inside.changes c.make_room.new.changes c.self.invariant same c.args.key c.put_noted.new.changes.list c.put_noted.ensures.list)

pub invariant_of-self : goal.invariant_of-self
invariant_of-self g c =
    let inside = c.self.inside in
    let grown = same-cells inside.indexed c.make_cell.new.self inside.queue inside.changes c.make_cell.ensures.widens (λ _. c.make_cell.ensures.distinct) in
    whole-same inside.indexed c.make_cell.new.self inside.queue inside.queue inside.claims.items inside.changes inside.changes grown c.self.invariant

pub returns-in_err-cell-clause-err : goal.returns-in_err-cell-clause-err
returns-in_err-cell-clause-err g c =
    let inside = c.self.inside in
    let grown = same-cells inside.indexed c.make_cell.new.self inside.queue inside.changes c.make_cell.ensures.widens (λ _. c.make_cell.ensures.distinct) in
    rw (← c.self.view_is)
    (on-err _ (image-same inside.indexed c.make_cell.new.self inside.queue inside.queue inside.claims.items inside.changes inside.changes grown c.self.invariant))

pub returns-in_err-make_room-clause-err : goal.returns-in_err-make_room-clause-err
returns-in_err-make_room-clause-err g c =
    let inside = c.self.inside in
    let grown = same-cells inside.indexed c.make_cell.new.self inside.queue inside.changes c.make_cell.ensures.widens (λ _. c.make_cell.ensures.distinct) in
    let same = same-then inside.indexed c.make_cell.new.self c.make_room.new.indexed inside.queue inside.queue c.make_room.new.queue inside.changes inside.changes c.make_room.new.changes grown c.make_room.ensures.same in
    rw (← c.self.view_is)
    (on-err _ (image-same inside.indexed c.make_room.new.indexed inside.queue c.make_room.new.queue inside.claims.items inside.changes c.make_room.new.changes same c.self.invariant))
