use Rattle.std.proofs.Common.{Some, arith, sym, ◌∙◌, ap}
use Rattle.ide_image.specs.Indexed.{place_of_key}
use Rattle.ide_image.specs.Tables.{place_in}
use Rattle.ide_image.proofs.Places.{place-stays}
use Rattle.ide_image.proofs.Spots.{place-few}
use Rattle.ide_image.proofs.parts.put_noted.Goals as goal

pub note_now-requires-clause-room : goal.note_now-requires-clause-room
note_now-requires-clause-room g c =
    let few = place-few c.args.key c.args.indexed.now.cells in
    let notes = c.requires.room.notes in
    record {
      free = notes.free;
      stamped = λ is. let stamped = notes.stamped is in omega (arith, few, c.requires.cell, stamped);
    }

pub returns-clause-stands : goal.returns-clause-stands
returns-clause-stands g c =
    c.requires.cell
    ∙ sym (ap (place_in c.args.key) c.put.ensures.cells ∙ place-stays c.args.key c.args.indexed.now.cells c.args.key (Some c.args.function) c.args.cell c.requires.cell)

pub returns-clause-slots : goal.returns-clause-slots
returns-clause-slots g c =
    c.note_now.ensures.slots (place_of_key c.put.new.self)
    (sym (c.requires.cell
    ∙ sym (ap (place_in c.args.key) c.put.ensures.cells ∙ place-stays c.args.key c.args.indexed.now.cells c.args.key (Some c.args.function) c.args.cell c.requires.cell)))
