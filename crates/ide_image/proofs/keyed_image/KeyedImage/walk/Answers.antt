use Rattle.std.proofs.Common.{subst, suc, sym, ap, ◌∙◌, arith}
use Rattle.std.specs.Prelude.{◌||◌, ◌&&◌, not}
use Rattle.ide_wire.specs.Key.{same_key}
use Rattle.ide_wire.specs.declared.key.Key.TheVariants.{Jump}
use Rattle.ide_image.specs.Indexed.{place_of_key, table_of}
use Rattle.ide_image.specs.Notes.{with_note}
use Rattle.ide_image.specs.Queue.{held_at, mark_in, pending_at}
use Rattle.ide_image.specs.Tables.{Table, found}
use Rattle.ide_image.specs.Walk.{EntersWalked, jump_behind, with_entered}
use Rattle.ide_image.proofs.Agree.{at-index, cell-same, image-same, is-pending, on-err, pending-long, table-same, unclaimed-free, whole-same}
use Rattle.ide_image.proofs.Before.{at-some, note-before, pending-before, waits-is}
use Rattle.ide_image.proofs.Shown.{distinct-shown, few-shown}
use Rattle.ide_image.proofs.Spots.{place-few}
use Rattle.ide_image.proofs.Walked.{cells-walked, entry-walked, enters-walk, pending-walk, quiet-last, stands-after, starts-after, walks, whole-entered, whole-walk}
use Rattle.ide_image.proofs.Walking.{notes-in, whole-notes}
use Rattle.ide_image.proofs.keyed_image.KeyedImage.walk.Goals as goal

pub cell_of-cell-requires : goal.cell_of-cell-requires
cell_of-cell-requires g c =
    let inside = c.self.inside in
    let first = Jump c.args.node c.args.from c.args.to in
    let pends = sym (is-pending inside.indexed inside.queue inside.claims.items inside.changes c.self.invariant first) ∙ (rw (← c.self.view_is) at c.requires.pending) in
    record { cell = at-some (pending_at inside.queue.list) (place_of_key inside.indexed first) pends }

pub invariant_of-self : goal.invariant_of-self
invariant_of-self g c =
    let inside = c.self.inside in
    let made = c.make_room.new in
    whole-same inside.indexed made.indexed inside.queue made.queue inside.claims.items inside.changes made.changes c.make_room.ensures.same c.self.invariant

pub returns-in_err-make_room-clause-err : goal.returns-in_err-make_room-clause-err
returns-in_err-make_room-clause-err g c =
    let inside = c.self.inside in
    let made = c.make_room.new in
    rw (← c.self.view_is)
    (on-err _ (image-same inside.indexed made.indexed inside.queue made.queue inside.claims.items inside.changes made.changes c.make_room.ensures.same c.self.invariant))

pub put_behind-requires-clause-cell : goal.put_behind-requires-clause-cell
put_behind-requires-clause-cell g c =
    let inside = c.self.inside in
    cell-same inside.indexed c.make_room.new.indexed (Jump c.args.node c.args.from c.args.to) c.cell_of-cell.result c.make_room.ensures.same.cells c.cell_of-cell.ensures.place

pub put_behind-requires-clause-absent : goal.put_behind-requires-clause-absent
put_behind-requires-clause-absent g c = λ n less.
    ap (λ table. found table (jump_behind c.args.node c.args.from c.args.to (suc n))) (table-same c.self.inside.indexed c.make_room.new.indexed c.make_room.ensures.same.cells)
    ∙ (rw (← c.self.view_is) at c.requires.absent) n less

pub note_walk-requires-clause-cell : goal.note_walk-requires-clause-cell
note_walk-requires-clause-cell g c =
    let walk = walks c.self.invariant c.make_room.ensures.same c.args.node c.args.from c.args.to c.args.function c.args.count c.cell_of-cell.result c.put_behind.new.self
    c.requires.some (rw (← c.self.view_is) at c.requires.absent) c.cell_of-cell.ensures.place c.put_behind.ensures.stands c.put_behind.ensures.cells in
    starts-after walk

pub note_walk-requires-clause-stands : goal.note_walk-requires-clause-stands
note_walk-requires-clause-stands g c =
    let walk = walks c.self.invariant c.make_room.ensures.same c.args.node c.args.from c.args.to c.args.function c.args.count c.cell_of-cell.result c.put_behind.new.self
    c.requires.some (rw (← c.self.view_is) at c.requires.absent) c.cell_of-cell.ensures.place c.put_behind.ensures.stands c.put_behind.ensures.cells in
    stands-after walk

pub note_walk-requires-clause-room : goal.note_walk-requires-clause-room
note_walk-requires-clause-room g c =
    let walk = walks c.self.invariant c.make_room.ensures.same c.args.node c.args.from c.args.to c.args.function c.args.count c.cell_of-cell.result c.put_behind.new.self
    c.requires.some (rw (← c.self.view_is) at c.requires.absent) c.cell_of-cell.ensures.place c.put_behind.ensures.stands c.put_behind.ensures.cells in
    let long = cells-walked walk in
    let notes = c.in_ok-make_room.ensures.room.notes in
    record {
      free = notes.free;
      stamped = λ is. let stamped = notes.stamped is in omega (arith, stamped, long);
    }

pub note_walk-requires-clause-notes : goal.note_walk-requires-clause-notes
note_walk-requires-clause-notes g c =
    let inside = c.self.inside in
    let made = c.make_room.new in
    let whole = whole-same inside.indexed made.indexed inside.queue made.queue inside.claims.items inside.changes made.changes c.make_room.ensures.same c.self.invariant in
    let walk = walks c.self.invariant c.make_room.ensures.same c.args.node c.args.from c.args.to c.args.function c.args.count c.cell_of-cell.result c.put_behind.new.self
    c.requires.some (rw (← c.self.view_is) at c.requires.absent) c.cell_of-cell.ensures.place c.put_behind.ensures.stands c.put_behind.ensures.cells in
    notes-in c.put_behind.new.self made.queue inside.claims.items made.changes (whole-entered walk whole)

pub move_on-requires-clause-waits : goal.move_on-requires-clause-waits
move_on-requires-clause-waits g c =
    let inside = c.self.inside in
    let made = c.make_room.new in
    let first = Jump c.args.node c.args.from c.args.to in
    let whole = whole-same inside.indexed made.indexed inside.queue made.queue inside.claims.items inside.changes made.changes c.make_room.ensures.same c.self.invariant in
    let pends = pending-before inside.indexed made.indexed inside.queue made.queue inside.claims.items inside.changes made.changes c.self.invariant c.make_room.ensures.same first
    ∙ (rw (← c.self.view_is) at c.requires.pending) in
    let free = unclaimed-free made.indexed made.queue inside.claims.items made.changes whole first (rw (← c.self.view_is) at c.requires.unclaimed) in
    let stands = cell-same inside.indexed made.indexed first c.cell_of-cell.result c.make_room.ensures.same.cells c.cell_of-cell.ensures.place in
    let place = place_of_key made.indexed first in
    waits-is (mark_in made.queue.list c.cell_of-cell.result) (sym (at-index (pending_at made.queue.list) place c.cell_of-cell.result stands) ∙ pends)
    (sym (at-index (held_at made.queue.list) place c.cell_of-cell.result stands) ∙ free)

pub move_on-requires-clause-settled : goal.move_on-requires-clause-settled
move_on-requires-clause-settled g c =
    let inside = c.self.inside in
    let made = c.make_room.new in
    let whole = whole-same inside.indexed made.indexed inside.queue made.queue inside.claims.items inside.changes made.changes c.make_room.ensures.same c.self.invariant in
    let walk = walks c.self.invariant c.make_room.ensures.same c.args.node c.args.from c.args.to c.args.function c.args.count c.cell_of-cell.result c.put_behind.new.self
    c.requires.some (rw (← c.self.view_is) at c.requires.absent) c.cell_of-cell.ensures.place c.put_behind.ensures.stands c.put_behind.ensures.cells in
    quiet-last walk whole

pub move_on-requires-clause-there : goal.move_on-requires-clause-there
move_on-requires-clause-there g c =
    let last = c.put_behind.ensures.stands c.args.count (omega arith) in
    let few = place-few (jump_behind c.args.node c.args.from c.args.to c.args.count) c.make_room.new.indexed.cells in
    omega (arith, last, few, c.in_ok-make_room.ensures.room.marked)

pub invariant_of-self-2 : goal.invariant_of-self-2
invariant_of-self-2 g c =
    let inside = c.self.inside in
    let made = c.make_room.new in
    let first = Jump c.args.node c.args.from c.args.to in
    let whole = whole-same inside.indexed made.indexed inside.queue made.queue inside.claims.items inside.changes made.changes c.make_room.ensures.same c.self.invariant in
    let walk = walks c.self.invariant c.make_room.ensures.same c.args.node c.args.from c.args.to c.args.function c.args.count c.cell_of-cell.result c.put_behind.new.self
    c.requires.some (rw (← c.self.view_is) at c.requires.absent) c.cell_of-cell.ensures.place c.put_behind.ensures.stands c.put_behind.ensures.cells in
    let pends = pending-before inside.indexed made.indexed inside.queue made.queue inside.claims.items inside.changes made.changes c.self.invariant c.make_room.ensures.same first
    ∙ (rw (← c.self.view_is) at c.requires.pending) in
    let free = unclaimed-free made.indexed made.queue inside.claims.items made.changes whole first (rw (← c.self.view_is) at c.requires.unclaimed) in
    whole-notes c.put_behind.new.self c.move_on.new.self inside.claims.items made.changes
    (whole-walk walk whole c.move_on.new.self pends free c.move_on.ensures.pending c.move_on.ensures.held)
    c.note_walk.new.changes c.note_walk.ensures.notes

pub returns-clause-entries : goal.returns-clause-entries
returns-clause-entries g c =
    let inside = c.self.inside in
    let made = c.make_room.new in
    let behind = jump_behind c.args.node c.args.from c.args.to in
    let walk = walks c.self.invariant c.make_room.ensures.same c.args.node c.args.from c.args.to c.args.function c.args.count c.cell_of-cell.result c.put_behind.new.self
    c.requires.some (rw (← c.self.view_is) at c.requires.absent) c.cell_of-cell.ensures.place c.put_behind.ensures.stands c.put_behind.ensures.cells in
    let table = table-same inside.indexed made.indexed c.make_room.ensures.same.cells in
    rw (← c.self.view_is)
    (subst (λ (t : Table g.row.F.Denot). EntersWalked behind c.args.function c.args.count t (table_of c.put_behind.new.self.cells)) table (enters-walk walk))

pub returns-clause-few : goal.returns-clause-few
returns-clause-few g c =
    let walk = walks c.self.invariant c.make_room.ensures.same c.args.node c.args.from c.args.to c.args.function c.args.count c.cell_of-cell.result c.put_behind.new.self
    c.requires.some (rw (← c.self.view_is) at c.requires.absent) c.cell_of-cell.ensures.place c.put_behind.ensures.stands c.put_behind.ensures.cells in
    let long = cells-walked walk in
    let few = few-shown c.put_behind.new.self.cells in
    omega (arith, long, few, c.in_ok-make_room.ensures.few)

pub returns-clause-pending : goal.returns-clause-pending
returns-clause-pending g c =
    let inside = c.self.inside in
    let made = c.make_room.new in
    let first = Jump c.args.node c.args.from c.args.to in
    let behind = jump_behind c.args.node c.args.from c.args.to in
    let whole = whole-same inside.indexed made.indexed inside.queue made.queue inside.claims.items inside.changes made.changes c.make_room.ensures.same c.self.invariant in
    let walk = walks c.self.invariant c.make_room.ensures.same c.args.node c.args.from c.args.to c.args.function c.args.count c.cell_of-cell.result c.put_behind.new.self
    c.requires.some (rw (← c.self.view_is) at c.requires.absent) c.cell_of-cell.ensures.place c.put_behind.ensures.stands c.put_behind.ensures.cells in
    let pends = pending-before inside.indexed made.indexed inside.queue made.queue inside.claims.items inside.changes made.changes c.self.invariant c.make_room.ensures.same first
    ∙ (rw (← c.self.view_is) at c.requires.pending) in
    let free = unclaimed-free made.indexed made.queue inside.claims.items made.changes whole first (rw (← c.self.view_is) at c.requires.unclaimed) in
    rw (← c.self.view_is)
    (λ q.
    pending-walk walk whole c.move_on.new.self pends free c.move_on.ensures.pending c.move_on.ensures.held q
    ∙ ap (λ b. same_key (behind c.args.count) q || (not (same_key first q) && b))
    (pending-before inside.indexed made.indexed inside.queue made.queue inside.claims.items inside.changes made.changes c.self.invariant c.make_room.ensures.same q))

pub returns-clause-count : goal.returns-clause-count
returns-clause-count g c =
    let inside = c.self.inside in
    let made = c.make_room.new in
    let first = Jump c.args.node c.args.from c.args.to in
    let whole = whole-same inside.indexed made.indexed inside.queue made.queue inside.claims.items inside.changes made.changes c.make_room.ensures.same c.self.invariant in
    let walk = walks c.self.invariant c.make_room.ensures.same c.args.node c.args.from c.args.to c.args.function c.args.count c.cell_of-cell.result c.put_behind.new.self
    c.requires.some (rw (← c.self.view_is) at c.requires.absent) c.cell_of-cell.ensures.place c.put_behind.ensures.stands c.put_behind.ensures.cells in
    let pends = pending-before inside.indexed made.indexed inside.queue made.queue inside.claims.items inside.changes made.changes c.self.invariant c.make_room.ensures.same first
    ∙ (rw (← c.self.view_is) at c.requires.pending) in
    let free = unclaimed-free made.indexed made.queue inside.claims.items made.changes whole first (rw (← c.self.view_is) at c.requires.unclaimed) in
    let walked = whole-walk walk whole c.move_on.new.self pends free c.move_on.ensures.pending c.move_on.ensures.held in
    let before = pending-long inside.indexed inside.queue inside.claims.items inside.changes c.self.invariant in
    let after = pending-long c.put_behind.new.self c.move_on.new.self inside.claims.items made.changes walked in
    rw (← c.self.view_is) (omega (arith, before, after, c.move_on.ensures.count, c.make_room.ensures.count))

pub returns-clause-noted : goal.returns-clause-noted
returns-clause-noted g c =
    let inside = c.self.inside in
    let made = c.make_room.new in
    let first = Jump c.args.node c.args.from c.args.to in
    let behind = jump_behind c.args.node c.args.from c.args.to in
    let walk = walks c.self.invariant c.make_room.ensures.same c.args.node c.args.from c.args.to c.args.function c.args.count c.cell_of-cell.result c.put_behind.new.self
    c.requires.some (rw (← c.self.view_is) at c.requires.absent) c.cell_of-cell.ensures.place c.put_behind.ensures.stands c.put_behind.ensures.cells in
    rw (← c.self.view_is)
    (c.note_walk.ensures.list
    ∙ ap (λ notes. with_entered notes behind c.args.count)
    (note-before inside.indexed made.indexed inside.queue made.queue inside.claims.items inside.changes made.changes c.self.invariant c.make_room.ensures.same first
    _ (ap (with_note made.changes.list first) (entry-walked walk made.queue))))

pub returns-in_err-make_room-clause-distinct : goal.returns-in_err-make_room-clause-distinct
returns-in_err-make_room-clause-distinct g c = rw (← c.self.view_is) (distinct-shown c.self.inside.indexed.cells c.self.invariant.distinct)

pub returns-clause-distinct : goal.returns-clause-distinct
returns-clause-distinct g c = rw (← c.self.view_is) (distinct-shown c.self.inside.indexed.cells c.self.invariant.distinct)
