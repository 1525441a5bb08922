use Rattle.std.proofs.Common.{◌/◌, arith}
use Rattle.ide_values.proofs.Halves.{both_parts, high_end, low_end}
use Rattle.ide_values.proofs.share.+halves.Goals as goal

pub fill_shared-overflow_add-middle : goal.fill_shared-overflow_add-middle
fill_shared-overflow_add-middle g t c = record { fits = omega (arith, c.requires.few) }

pub fill_shared-overflow_sub-place : goal.fill_shared-overflow_sub-place
fill_shared-overflow_sub-place g t c =
    let low = low_end (g.W.Ranges.sharing c.args.ranges.now) c.start.ensures.ascends c.args.first c.args.count (c.args.count / 2) c.args.rows.now c.requires
    (omega (arith, c.requires.some, c.if-count-eq1.false)) (omega (arith, c.requires.some)) in
    omega (arith, low, c.start.ensures.place, c.start-2.ensures.place)

pub fill_shared-split_at_mut-low-requires : goal.fill_shared-split_at_mut-low-requires
fill_shared-split_at_mut-low-requires g t c =
    let high = high_end (g.W.Ranges.sharing c.args.ranges.now) c.start.ensures.ascends c.args.first c.args.count (c.args.count / 2) c.args.rows.now c.requires
    (omega (arith, c.requires.some, c.if-count-eq1.false)) (omega (arith, c.requires.some)) in
    omega (arith, high, c.start.ensures.place, c.start-2.ensures.place)

pub fill_shared-fill_both-requires-clause-low : goal.fill_shared-fill_both-requires-clause-low
fill_shared-fill_both-requires-clause-low g t c κs within =
    let cut = c.split_at_mut-low in
    (both_parts (g.W.Ranges.sharing c.args.ranges.now) c.start.ensures.ascends c.args.first c.args.count (c.args.count / 2) c.args.rows.now c.requires
    (omega (arith, c.requires.some, c.if-count-eq1.false)) (omega (arith, c.requires.some)) cut.result.0.now cut.result.1.now cut.ensures.value
    (omega (arith, cut.ensures.front_len, c.start.ensures.place, c.start-2.ensures.place))).0

pub fill_shared-fill_both-requires-clause-high : goal.fill_shared-fill_both-requires-clause-high
fill_shared-fill_both-requires-clause-high g t c κs within =
    let cut = c.split_at_mut-low in
    (both_parts (g.W.Ranges.sharing c.args.ranges.now) c.start.ensures.ascends c.args.first c.args.count (c.args.count / 2) c.args.rows.now c.requires
    (omega (arith, c.requires.some, c.if-count-eq1.false)) (omega (arith, c.requires.some)) cut.result.0.now cut.result.1.now cut.ensures.value
    (omega (arith, cut.ensures.front_len, c.start.ensures.place, c.start-2.ensures.place))).1
