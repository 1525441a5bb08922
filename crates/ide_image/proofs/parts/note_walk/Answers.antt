use Rattle.std.proofs.Common.{rules, ◌≡◌, ◌+◌, false, arith, ap, ◌∙◌, length}
use Rattle.std.specs.Option.{is_some}
use Rattle.ide_wire.specs.declared.key.Key.TheVariants.{Jump}
use Rattle.ide_image.specs.KeyedImage.{entry_by}
use Rattle.ide_image.specs.Walk.{jump_behind, with_entered}
use Rattle.ide_image.proofs.Agree.{note-silent}
use Rattle.ide_image.proofs.Spots.{place-few}
use Rattle.ide_image.proofs.Walking.{entered-silent, listed-from, notes-more, stands-from}
use Rattle.ide_image.proofs.parts.note_walk.Goals as goal

pub returns-then-not-is_noting-clause-list : goal.returns-then-not-is_noting-clause-list
returns-then-not-is_noting-clause-list g c =
    let silent : is_some c.args.changes.now.list ≡ false = search rules in
    let first = Jump c.args.node c.args.from c.args.to in
    let behind = jump_behind c.args.node c.args.from c.args.to in
    entered-silent c.args.changes.now.list behind c.args.count silent
    ∙ ap (λ list. with_entered list behind c.args.count) (note-silent c.args.changes.now.list first (entry_by c.args.indexed.now c.args.queue.now first) silent)

pub note_now-requires-clause-room : goal.note_now-requires-clause-room
note_now-requires-clause-room g c =
    let few = place-few (Jump c.args.node c.args.from c.args.to) c.args.indexed.now.cells in
    let room = c.requires.room in
    record {
      free = λ is. let free = room.free is in omega (arith, free);
      stamped = λ is. let stamped = room.stamped is in omega (arith, stamped, few, c.requires.cell);
    }

pub note_behind-requires-clause-room : goal.note_behind-requires-clause-room
note_behind-requires-clause-room g c =
    let last = c.requires.stands c.args.count (omega arith) in
    let few = place-few (jump_behind c.args.node c.args.from c.args.to c.args.count) c.args.indexed.now.cells in
    let room = c.note_now.ensures.room c.args.count (length c.args.indexed.now.cells) c.requires.room in
    record {
      free = room.free;
      stamped = λ is. let stamped = room.stamped is in omega (arith, stamped, last, few);
    }

pub note_behind-requires-clause-listed : goal.note_behind-requires-clause-listed
note_behind-requires-clause-listed g c =
    let indexed = c.args.indexed.now in
    let first = Jump c.args.node c.args.from c.args.to in
    let behind = jump_behind c.args.node c.args.from c.args.to in
    let noted = notes-more indexed c.args.changes.now c.note_now.new.changes first _ c.args.cell c.requires.cell
    c.note_now.ensures.marks c.note_now.ensures.list c.note_now.ensures.slots c.requires.notes in
    listed-from indexed c.note_now.new.changes (c.args.cell + 1) c.args.count behind noted (stands-from c.args.cell behind c.args.count indexed c.requires.stands)

pub returns-clause-list : goal.returns-clause-list
returns-clause-list g c =
    c.note_behind.ensures.list
    ∙ ap (λ list. with_entered list (jump_behind c.args.node c.args.from c.args.to) c.args.count) c.note_now.ensures.list

pub returns-clause-notes : goal.returns-clause-notes
returns-clause-notes g c =
    let indexed = c.args.indexed.now in
    let first = Jump c.args.node c.args.from c.args.to in
    let behind = jump_behind c.args.node c.args.from c.args.to in
    let noted = notes-more indexed c.args.changes.now c.note_now.new.changes first _ c.args.cell c.requires.cell
    c.note_now.ensures.marks c.note_now.ensures.list c.note_now.ensures.slots c.requires.notes in
    c.note_behind.ensures.notes indexed (stands-from c.args.cell behind c.args.count indexed c.requires.stands) noted
