use Rattle.std.proofs.Common.{IfNone, length, arith, sym, subst}
use Rattle.ide_slots.specs.Records.{HasNoRecord}
use Rattle.ide_slots.proofs.Frames.{record_is}
use Rattle.ide_slots.proofs.record.read_frame.Goals as goal

pub returns-in_err-count-clause-none : goal.returns-in_err-count-clause-none
returns-in_err-count-clause-none c =
    subst (λ told. IfNone told (HasNoRecord c.args.bytes.now)) (sym c.from_residual.ensures)
    (λ r size read.
    let frame = record_is r size c.args.bytes.now read in
    c.in_err-count.ensures.none (length r.1.1)
    (record { sized = frame.sized; short = frame.short; filled = frame.filled; inside = frame.inside }))

pub returns-in_err-number-clause-none : goal.returns-in_err-number-clause-none
returns-in_err-number-clause-none c =
    subst (λ told. IfNone told (HasNoRecord c.args.bytes.now)) (sym c.from_residual-in_err-number.ensures)
    (λ r size read.
    let frame = record_is r size c.args.bytes.now read in
    c.in_err-number.ensures.none r.0 frame.low frame.numbered)

pub returns-clause-whole : goal.returns-clause-whole
returns-clause-whole c =
    let framed = c.in_ok-count.ensures.framed in
    record {
      low = omega arith;
      numbered = c.in_ok-number.ensures.told;
      sized = framed.sized;
      short = framed.short;
      filled = framed.filled;
      inside = framed.inside;
    }
