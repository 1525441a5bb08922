use Rattle.std.proofs.Common.{arith}
use Rattle.ide_values.proofs.fill.near_offsets.Goals as goal

pub returns : goal.returns
returns c =
    let sum = c.saturating_add.ensures in
    let past = c.saturating_add-past.ensures in
    let low = c.saturating_sub.ensures in
    let begin = c.min-begin.ensures in
    let high = c.saturating_sub-2.ensures in
    let end = c.min-end.ensures in
    let last = c.max.ensures in
    record {
      order = omega (arith, last);
      page = omega (arith, begin, end, last);
      behind = λ offset from to. omega (arith, low, begin, end, last, from, to);
      all = λ offset less from to.
          (omega (arith, low, begin, less, from), omega (arith, sum, past, high, end, last, less, to));
    }
