use Rattle.std.proofs.Common.{IfNone, length, arith, sym, subst}
use Rattle.ide_journal.specs.Reading.{IsDamaged}
use Rattle.ide_journal.proofs.Whole.{is_whole}
use Rattle.ide_journal.proofs.reading.body_length.Goals as goal

pub returns-in_err-count-clause-damaged : goal.returns-in_err-count-clause-damaged
returns-in_err-count-clause-damaged c =
    subst (λ r. IfNone r (IsDamaged c.args.number c.args.bytes.now)) (sym c.from_residual.ensures)
    (λ entry rest proper low some are.
    let whole = is_whole c.args.number entry rest c.args.bytes.now proper low some are in
    c.in_err-count.ensures.none (length entry.1)
    (record { sized = whole.sized; short = whole.short; filled = whole.filled; inside = whole.inside }))

pub returns-then-kind-lt1-clause-damaged : goal.returns-then-kind-lt1-clause-damaged
returns-then-kind-lt1-clause-damaged c entry rest proper low some are =
    let whole = is_whole c.args.number entry rest c.args.bytes.now proper low some are in
    omega (arith, whole.some_kind)

pub returns-then-kind-gt3-clause-damaged : goal.returns-then-kind-gt3-clause-damaged
returns-then-kind-gt3-clause-damaged c entry rest proper low some are =
    let whole = is_whole c.args.number entry rest c.args.bytes.now proper low some are in
    omega (arith, whole.known_kind)

pub returns-then-not-numbered-clause-damaged : goal.returns-then-not-numbered-clause-damaged
returns-then-not-numbered-clause-damaged c entry rest proper low some are =
    let whole = is_whole c.args.number entry rest c.args.bytes.now proper low some are in
    let told = c.spells-numbered.ensures.1 whole.numbered in cc

pub returns-clause-whole : goal.returns-clause-whole
returns-clause-whole c =
    let framed = c.in_ok-count.ensures.framed in
    record {
      low = omega arith;
      some_kind = omega arith;
      known_kind = omega arith;
      numbered = c.spells-numbered.ensures.0 c.if-not-numbered.false;
      sized = framed.sized;
      short = framed.short;
      filled = framed.filled;
      inside = framed.inside;
    }
