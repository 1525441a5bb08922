use Rattle.std.proofs.Common.{◌≡◌, ◌+◌, ◌∷◌, Some, ap, drop, get_or, length, subst, sym, ◌∙◌, arith}
use Rattle.std.specs.Prelude.{◌||◌}
use Rattle.std.specs.List.{list_any}
use Rattle.std.specs.Map.{keys_of}
use Rattle.std.specs.Option.{is_some}
use Rattle.std.proofs.lemmas.List.{drop_all, drop_more}
use Rattle.ide_wire.specs.Key.{same_key}
use Rattle.ide_image.specs.Tables.{place_in, with_all}
use Rattle.ide_image.specs.Indexed.{HasCell, full_cells}
use Rattle.ide_image.proofs.Places.{place-stays}
use Rattle.ide_image.specs.Worklist.{claim_in}
use Rattle.ide_image.specs.KeyedImage.{HasRoomFor, entry_by, marked_all, pending_by_slot}
use Rattle.ide_image.specs.Notes.{noted_after}
use Rattle.ide_image.proofs.Rest.{entry-kept, entry-own, marked-none, noted-none, noting-with, marked-rest, notes-rest, pending-rest, room-one}
use Rattle.ide_image.proofs.parts.enter_all.Goals as goal

pub cell_of-cell-requires : goal.cell_of-cell-requires
cell_of-cell-requires g c =
    record {
      cell = subst (λ e. HasCell c.loop-entry.indexed e.0) (sym c.entry-item.is)
          (c.loop-entry.invariant.made c.loop-entry.entry-index c.entry-item.result c.loop-entry-test.true);
    }

pub enter-requires-clause-room : goal.enter-requires-clause-room
enter-requires-clause-room g c =
    let list = c.args.list.now in
    let left = ap length (drop_more list c.loop-entry.entry-index c.entry-item.result c.loop-entry-test.true) in
    room-one c.loop-entry.indexed c.loop-entry.queue c.loop-entry.changes (length (drop c.loop-entry.entry-index list)) (omega (arith, left)) c.loop-entry.invariant.room

pub loop-entry-preserved : goal.loop-entry-preserved
loop-entry-preserved g c =
    let list = c.args.list.now in
    let index = c.loop-entry.entry-index in
    let entry = c.entry-item.result in
    let indexed = c.loop-entry.indexed in
    let queue = c.loop-entry.queue in
    let claims = c.loop-entry.claims.items in
    let changes = c.loop-entry.changes in
    let rest = drop (index + 1) list in
    let left = ap length (drop_more list index entry c.loop-entry-test.true) in
    let same : length (drop index list) ≡ length rest + 1 = omega (arith, left) in
    let next : drop index list ≡ entry ∷ rest = drop_more list index entry c.loop-entry-test.true ∙ ap (λ e. e ∷ rest) (sym c.entry-item.is) in
    record {
      room = c.enter.ensures.room (length rest) (subst (λ n. HasRoomFor n n indexed queue changes) same c.loop-entry.invariant.room);
      made = λ k d less.
          let stays = place-stays entry.0 indexed.cells (get_or list k d).0 (Some entry.1) c.cell_of-cell.result c.cell_of-cell.ensures.place in
          let put = ap (place_in (get_or list k d).0) c.enter.ensures.cells in
          let before = c.loop-entry.invariant.made k d less in
          omega (arith, stays, put, before);
      whole = c.enter.ensures.whole;
      cells =
          ap (λ cells. with_all cells (full_cells rest)) c.enter.ensures.cells
          ∙ ap (λ xs. with_all indexed.cells (full_cells xs)) (sym next)
          ∙ c.loop-entry.invariant.cells;
      pending = λ q.
          ap (λ b. list_any (same_key q) (keys_of rest) || b) (c.enter.ensures.pending q)
          ∙ pending-rest entry.0 q (keys_of rest) (pending_by_slot indexed queue q)
          ∙ ap (λ xs. list_any (same_key q) (keys_of xs) || pending_by_slot indexed queue q) (sym next)
          ∙ c.loop-entry.invariant.pending q;
      claims = λ h.
          ap (marked_all (keys_of rest)) (c.enter.ensures.claims h)
          ∙ marked-rest entry.0 (keys_of rest) (claim_in claims h)
          ∙ ap (λ xs. marked_all (keys_of xs) (claim_in claims h)) (sym next)
          ∙ c.loop-entry.invariant.claims h;
      noting = ap is_some c.enter.ensures.list ∙ noting-with changes.list entry.0 (entry_by indexed queue entry.0) ∙ c.loop-entry.invariant.noting;
      notes = λ q.
          ap (λ l. noted_after l (list_any (same_key q) (keys_of rest)) (entry_by c.enter.new.indexed c.enter.new.queue q) q) c.enter.ensures.list
          ∙ notes-rest changes.list entry.0 q (keys_of rest) (entry_by indexed queue entry.0) (entry_by indexed queue q) (entry_by c.enter.new.indexed c.enter.new.queue q)
          (entry-own indexed c.enter.new.indexed queue c.enter.new.queue entry.0 entry.1 c.enter.ensures.cells c.enter.ensures.pending q)
          (entry-kept indexed c.enter.new.indexed queue c.enter.new.queue entry.0 entry.1 c.enter.ensures.cells c.enter.ensures.pending q)
          ∙ ap (λ xs. noted_after changes.list (list_any (same_key q) (keys_of xs)) (entry_by indexed queue q) q) (sym next)
          ∙ c.loop-entry.invariant.notes q;
    }

pub returns : goal.returns
returns g c =
    let indexed = c.loop-entry.indexed in
    let queue = c.loop-entry.queue in
    let empty = sym (drop_all c.loop-entry.entry-index c.args.list.now c.loop-entry-test.false) in
    record {
      whole = c.loop-entry.invariant.whole;
      cells = ap (λ xs. with_all indexed.cells (full_cells xs)) empty ∙ c.loop-entry.invariant.cells;
      pending = λ q. ap (λ xs. list_any (same_key q) (keys_of xs) || pending_by_slot indexed queue q) empty ∙ c.loop-entry.invariant.pending q;
      claims = λ h.
          sym (marked-none (claim_in c.loop-entry.claims.items h))
          ∙ ap (λ xs. marked_all (keys_of xs) (claim_in c.loop-entry.claims.items h)) empty
          ∙ c.loop-entry.invariant.claims h;
      noting = c.loop-entry.invariant.noting;
      notes = λ q.
          sym (noted-none c.loop-entry.changes.list (entry_by indexed queue q) q)
          ∙ ap (λ xs. noted_after c.loop-entry.changes.list (list_any (same_key q) (keys_of xs)) (entry_by indexed queue q) q) empty
          ∙ c.loop-entry.invariant.notes q;
    }
