use Rattle.std.proofs.Common.{ap, ◌∙◌}
use Rattle.std.specs.Prelude.{◌||◌}
use Rattle.std.specs.List.{list_any}
use Rattle.std.specs.Map.{keys_of}
use Rattle.ide_wire.specs.Key.{same_key}
use Rattle.ide_image.specs.Indexed.{function_of}
use Rattle.ide_image.specs.Tables.{last_of}
use Rattle.ide_image.specs.KeyedImage.{entry_by}
use Rattle.ide_image.specs.Notes.{noted_after}
use Rattle.ide_image.proofs.Agree.{image-same, on-err, is-pending, same-cells, same-then, whole-same}
use Rattle.ide_image.proofs.Before.{entry-before, function-before, pending-before}
use Rattle.ide_image.proofs.Agree.{have-more}
use Rattle.ide_image.proofs.Shown.{found-shown, function-with-all}
use Rattle.ide_image.proofs.keyed_image.KeyedImage.set_all.Goals as goal

pub invariant_of-self : goal.invariant_of-self
invariant_of-self g c =
    let inside = c.self.inside in
    let made = same-cells inside.indexed c.make_cells.new.self inside.queue inside.changes c.make_cells.ensures.widens c.make_cells.ensures.distinct in
    whole-same inside.indexed c.make_cells.new.self inside.queue inside.queue inside.claims.items inside.changes inside.changes made c.self.invariant

pub invariant_of-self-in_err-make_room : goal.invariant_of-self-in_err-make_room
invariant_of-self-in_err-make_room g c =
    let inside = c.self.inside in
    let made = same-cells inside.indexed c.make_cells.new.self inside.queue inside.changes c.make_cells.ensures.widens c.make_cells.ensures.distinct in
    let both = same-then inside.indexed c.make_cells.new.self c.make_room.new.indexed inside.queue inside.queue c.make_room.new.queue inside.changes inside.changes c.make_room.new.changes made c.make_room.ensures.same in
    whole-same inside.indexed c.make_room.new.indexed inside.queue c.make_room.new.queue inside.claims.items inside.changes c.make_room.new.changes both c.self.invariant

pub enter_all-requires-clause-made : goal.enter_all-requires-clause-made
enter_all-requires-clause-made g c = have-more c.make_cells.new.self c.make_room.new.indexed c.make_room.ensures.same.cells c.args.list.now c.in_ok-make_cells.ensures.made

pub enter_all-requires-clause-whole : goal.enter_all-requires-clause-whole
enter_all-requires-clause-whole g c =
    let inside = c.self.inside in
    let made = same-cells inside.indexed c.make_cells.new.self inside.queue inside.changes c.make_cells.ensures.widens c.make_cells.ensures.distinct in
    let both = same-then inside.indexed c.make_cells.new.self c.make_room.new.indexed inside.queue inside.queue c.make_room.new.queue inside.changes inside.changes c.make_room.new.changes made c.make_room.ensures.same in
    whole-same inside.indexed c.make_room.new.indexed inside.queue c.make_room.new.queue inside.claims.items inside.changes c.make_room.new.changes both c.self.invariant

pub returns-clause-sets : goal.returns-clause-sets
returns-clause-sets g c =
    let inside = c.self.inside in
    let made = same-cells inside.indexed c.make_cells.new.self inside.queue inside.changes c.make_cells.ensures.widens c.make_cells.ensures.distinct in
    let both = same-then inside.indexed c.make_cells.new.self c.make_room.new.indexed inside.queue inside.queue c.make_room.new.queue inside.changes inside.changes c.make_room.new.changes made c.make_room.ensures.same in
    rw (← c.self.view_is)
    (record {
      entries = λ q.
          found-shown c.enter_all.new.indexed.cells q c.enter_all.ensures.whole.distinct
          ∙ ap (λ cells. function_of cells q) c.enter_all.ensures.cells
          ∙ function-with-all c.args.list.now c.make_room.new.indexed.cells q
          ∙ ap (last_of c.args.list.now q) (function-before inside.indexed c.make_room.new.indexed inside.queue c.make_room.new.queue inside.claims.items inside.changes c.make_room.new.changes c.self.invariant both q);
    })

pub returns-clause-pending : goal.returns-clause-pending
returns-clause-pending g c =
    let inside = c.self.inside in
    let made = same-cells inside.indexed c.make_cells.new.self inside.queue inside.changes c.make_cells.ensures.widens c.make_cells.ensures.distinct in
    let both = same-then inside.indexed c.make_cells.new.self c.make_room.new.indexed inside.queue inside.queue c.make_room.new.queue inside.changes inside.changes c.make_room.new.changes made c.make_room.ensures.same in
    rw (← c.self.view_is)
    (λ q.
    is-pending c.enter_all.new.indexed c.enter_all.new.queue c.enter_all.new.claims.items c.enter_all.new.changes c.enter_all.ensures.whole q
    ∙ c.enter_all.ensures.pending q
    ∙ ap (λ b. list_any (same_key q) (keys_of c.args.list.now) || b) (pending-before inside.indexed c.make_room.new.indexed inside.queue c.make_room.new.queue inside.claims.items inside.changes c.make_room.new.changes c.self.invariant both q))

pub returns-clause-noted : goal.returns-clause-noted
returns-clause-noted g c =
    let inside = c.self.inside in
    let made = same-cells inside.indexed c.make_cells.new.self inside.queue inside.changes c.make_cells.ensures.widens c.make_cells.ensures.distinct in
    let both = same-then inside.indexed c.make_cells.new.self c.make_room.new.indexed inside.queue inside.queue c.make_room.new.queue inside.changes inside.changes c.make_room.new.changes made c.make_room.ensures.same in
    rw (← c.self.view_is)
    (λ q.
    c.enter_all.ensures.notes q
    ∙ ap (λ l. noted_after l (list_any (same_key q) (keys_of c.args.list.now)) (entry_by c.make_room.new.indexed c.make_room.new.queue q) q) both.list
    ∙ ap (λ e. noted_after inside.changes.list (list_any (same_key q) (keys_of c.args.list.now)) e q) (entry-before inside.indexed c.make_room.new.indexed inside.queue c.make_room.new.queue inside.claims.items inside.changes c.make_room.new.changes c.self.invariant both q))

pub returns-in_err-make_cells-clause-err : goal.returns-in_err-make_cells-clause-err
returns-in_err-make_cells-clause-err g c =
    let inside = c.self.inside in
    let made = same-cells inside.indexed c.make_cells.new.self inside.queue inside.changes c.make_cells.ensures.widens c.make_cells.ensures.distinct in
    rw (← c.self.view_is)
    (on-err _ (image-same inside.indexed c.make_cells.new.self inside.queue inside.queue inside.claims.items inside.changes inside.changes made c.self.invariant))

pub returns-in_err-make_room-clause-err : goal.returns-in_err-make_room-clause-err
returns-in_err-make_room-clause-err g c =
    let inside = c.self.inside in
    let made = same-cells inside.indexed c.make_cells.new.self inside.queue inside.changes c.make_cells.ensures.widens c.make_cells.ensures.distinct in
    let both = same-then inside.indexed c.make_cells.new.self c.make_room.new.indexed inside.queue inside.queue c.make_room.new.queue inside.changes inside.changes c.make_room.new.changes made c.make_room.ensures.same in
    rw (← c.self.view_is)
    (on-err _ (image-same inside.indexed c.make_room.new.indexed inside.queue c.make_room.new.queue inside.claims.items inside.changes c.make_room.new.changes both c.self.invariant))

pub returns-clause-claims : goal.returns-clause-claims
returns-clause-claims g c = rw (← c.self.view_is) c.enter_all.ensures.claims
