use Rattle.std.proofs.Common.{◌+◌, ◌++◌, arith, length, refl, rules, slice_index_or, length-set}
use Rattle.std.specs.Prelude.{slice_set}
use Rattle.ide_values.specs.Lines.{lines_with}
use Rattle.ide_values.proofs.Begun.{behind, halfway_done, halfway_more, halfway_none, halfway_room, halfway_text, set_there}
use Rattle.ide_values.proofs.line_text.put_byte.Goals as goal

pub loop-index-init : goal.loop-index-init
loop-index-init g c = λ tail lines. halfway_none c.args.told.now c.args.old.now (slice_set c.args.old.now c.args.at c.args.byte) tail c.args.text.now lines

pub bounds-text-place : goal.bounds-text-place
bounds-text-place g c =
    let tail = c.requires.lines.tail in
    let lines = c.requires.lines.lines in
    let room = halfway_room c.args.told.now c.args.old.now (slice_set c.args.old.now c.args.at c.args.byte) tail c.loop-index.text c.loop-index.index c.loop-index.place
    (length (c.args.old.now ++ tail c.loop-index.index)) (c.loop-index.invariant tail lines) c.loop-index-test.true refl in
    omega (arith, room.0, room.1, c.requires.there)

pub overflow_add-place : goal.overflow_add-place
overflow_add-place g c =
    let tail = c.requires.lines.tail in
    let lines = c.requires.lines.lines in
    let room = halfway_room c.args.told.now c.args.old.now (slice_set c.args.old.now c.args.at c.args.byte) tail c.loop-index.text c.loop-index.index c.loop-index.place
    (slice_index_or c.args.told.now c.loop-index.index c.index-told-index.result).length (c.loop-index.invariant tail lines) c.loop-index-test.true
    (lines.long c.loop-index.index c.index-told-index.result c.loop-index-test.true) in
    search (rules, room.0)

pub loop-index-preserved : goal.loop-index-preserved
loop-index-preserved g c = λ tail lines.
    let half = c.loop-index.invariant tail lines in
    halfway_more c.args.told.now c.args.old.now (slice_set c.args.old.now c.args.at c.args.byte) tail c.loop-index.text
    (slice_set c.loop-index.text (c.loop-index.place + c.args.at) c.args.byte) c.loop-index.index c.loop-index.place
    (slice_index_or c.args.told.now c.loop-index.index c.index-told-index.result).length half c.loop-index-test.true
    (length-set c.args.old.now c.args.at c.args.byte)
    (lines.long c.loop-index.index c.index-told-index.result c.loop-index-test.true)
    (set_there (lines_with (slice_set c.args.old.now c.args.at c.args.byte) tail 0 c.loop-index.index) c.args.old.now
    (behind c.args.told.now c.args.old.now (slice_set c.args.old.now c.args.at c.args.byte) tail half) c.loop-index.text c.loop-index.place c.args.at c.args.byte
    (halfway_text c.args.told.now c.args.old.now (slice_set c.args.old.now c.args.at c.args.byte) tail c.loop-index.text c.loop-index.index c.loop-index.place half c.loop-index-test.true)
    half.place_is c.requires.there)

pub returns : goal.returns
returns g c = λ tail lines.
    halfway_done c.args.told.now c.args.old.now (slice_set c.args.old.now c.args.at c.args.byte) tail c.args.text.now c.loop-index.text c.loop-index.index c.loop-index.place lines
    (length-set c.args.old.now c.args.at c.args.byte) (c.loop-index.invariant tail lines) c.loop-index-test.false
