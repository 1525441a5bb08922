use Rattle.std.proofs.Common.{◌≡◌, ◌+◌, ◌-◌, ◌≤◌, ◌++◌, ◌∙◌, ap, arith, length, refl, rules, slice_index_or}
use borrow.Rule.Slice.PartMut.{put_mid}
use Rattle.ide_values.specs.Lines.{lines_with}
use Rattle.ide_values.proofs.Begun.{behind, halfway_done, halfway_more, halfway_none, halfway_room, halfway_text, put_there}
use Rattle.ide_values.proofs.line_text.put_stem.Goals as goal

pub loop-index-init : goal.loop-index-init
loop-index-init g c = λ tail lines. halfway_none c.args.told.now c.args.old.now c.args.new.now tail c.args.text.now lines

pub slice_bounds-copy_from_slice-end : goal.slice_bounds-copy_from_slice-end
slice_bounds-copy_from_slice-end g c =
    let tail = c.requires.lines.tail in
    let lines = c.requires.lines.lines in
    let room = halfway_room c.args.told.now c.args.old.now c.args.new.now tail c.loop-index.text c.loop-index.index c.loop-index.place
    (length (c.args.old.now ++ tail c.loop-index.index)) (c.loop-index.invariant tail lines) c.loop-index-test.true refl in
    let bound : c.loop-index.place + length c.args.old.now ≤ length c.loop-index.text = omega (arith, room.0, room.1) in
    search (rules, bound)

pub overflow_add-place-in-loop-index : goal.overflow_add-place-in-loop-index
overflow_add-place-in-loop-index g c =
    let tail = c.requires.lines.tail in
    let lines = c.requires.lines.lines in
    let room = halfway_room c.args.told.now c.args.old.now c.args.new.now tail c.loop-index.text c.loop-index.index c.loop-index.place
    (slice_index_or c.args.told.now c.loop-index.index c.index-told-index.result).length (c.loop-index.invariant tail lines) c.loop-index-test.true
    (lines.long c.loop-index.index c.index-told-index.result c.loop-index-test.true) in
    search (rules, room.0)

pub loop-index-preserved : goal.loop-index-preserved
loop-index-preserved g c = λ tail lines.
    let half = c.loop-index.invariant tail lines in
    let place = c.loop-index.place in
    let text = c.loop-index.text in
    let long : place + length c.args.old.now - place ≡ length c.args.old.now = omega arith in
    halfway_more c.args.told.now c.args.old.now c.args.new.now tail text _ c.loop-index.index place
    (slice_index_or c.args.told.now c.loop-index.index c.index-told-index.result).length half c.loop-index-test.true c.requires.same
    (lines.long c.loop-index.index c.index-told-index.result c.loop-index-test.true)
    (ap (λ new. put_mid place (place + length c.args.old.now - place) text new) c.copy_from_slice.ensures.after
    ∙ put_there (lines_with c.args.new.now tail 0 c.loop-index.index) c.args.old.now c.args.new.now
    (behind c.args.told.now c.args.old.now c.args.new.now tail half) text place (place + length c.args.old.now - place)
    (halfway_text c.args.told.now c.args.old.now c.args.new.now tail text c.loop-index.index place half c.loop-index-test.true)
    half.place_is long)

pub returns : goal.returns
returns g c = λ tail lines.
    halfway_done c.args.told.now c.args.old.now c.args.new.now tail c.args.text.now c.loop-index.text c.loop-index.index c.loop-index.place lines
    c.requires.same (c.loop-index.invariant tail lines) c.loop-index-test.false
