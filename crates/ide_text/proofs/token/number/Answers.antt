use Rattle.std.proofs.Common.{arith, ◌<◌, ◌≡◌, length, get_or}
use Rattle.std.specs.Str.Parse.{AllDigits, digits_value}
use Rattle.std.specs.Char.{digit_value}
use Rattle.std.proofs.lemmas.Bool.Decides.{nat_tests}
use Rattle.std.proofs.lemmas.List.{take_all}
use Rattle.std.proofs.lemmas.Str.{digit_value_digit}
use Rattle.std.proofs.lemmas.Str.Parse.{digit_at}
use Rattle.std.proofs.lemmas.Int.Digits.{digits_more, digits_value_more}
use Rattle.ide_text.proofs.Numbers.{digits_from_decimal, no_leading_zero, value_fits, decimal_from_digits}
use Rattle.ide_text.proofs.token.number.Goals as goal
use Rattle.ide_text.proofs.token.number.Goals.{else-word-gt1-via-then-word-gt1+else-word-eq48, else-word-gt1-via-else-word-gt1}

pub returns-then-word-eq48-clause-none : goal.returns-then-word-eq48-clause-none
returns-then-word-eq48-clause-none c = λ n low e. omega (arith, no_leading_zero n c.args.word.now low e c.if-word-eq48.true)

pub returns-then-not-is_ascii_digit-clause-none : goal.returns-then-not-is_ascii_digit-clause-none
returns-then-not-is_ascii_digit-clause-none c = λ n low e.
    let range = digit_at c.args.word.now c.loop-byte.byte-index (digits_from_decimal n c.args.word.now low e) c.loop-byte-test.true in
    grind (arith, nat_tests)

pub returns-in_err-checked_mul-clause-none : goal.returns-in_err-checked_mul-clause-none
returns-in_err-checked_mul-clause-none c = rw c.from_residual.ensures
    (λ n low e. omega (arith, value_fits n c.args.word.now c.loop-byte.byte-index low e c.loop-byte-test.true, c.in_err-checked_mul.ensures))

pub returns-in_err-value-clause-none : goal.returns-in_err-value-clause-none
returns-in_err-value-clause-none c = rw c.from_residual-in_err-value.ensures
    (λ n low e. omega (arith, value_fits n c.args.word.now c.loop-byte.byte-index low e c.loop-byte-test.true, c.in_err-value.ensures, c.in_ok-checked_mul.ensures))

pub loop-byte-preserved : goal.loop-byte-preserved
loop-byte-preserved c =
    let word = c.args.word.now in
    let i = c.loop-byte.byte-index in
    let digit = digit_value_digit (get_or word i 0) (grind (arith, nat_tests)) in
    let low : digit_value (get_or word i 0) < 10 = grind (arith, nat_tests) in
    let more = digits_value_more 10 word i c.loop-byte-test.true in (
      digits_more 10 word i c.loop-byte-test.true c.loop-byte.invariant.0 low,
      omega (arith, c.in_ok-value.ensures, c.in_ok-checked_mul.ensures, c.from.ensures),
      omega (arith, c.in_ok-value.ensures),
    )

pub returns-clause-found : goal.returns-clause-found
returns-clause-found c =
    let word = c.args.word.now in
    let all = take_all c.loop-byte.byte-index word c.loop-byte-test.false in
    let digits : AllDigits 10 word = rw all at c.loop-byte.invariant.0 in
    let value : c.loop-byte.value ≡ digits_value 10 word = rw all at c.loop-byte.invariant.1 in
    let single : get_or word 0 0 ≡ 48 → length word ≡ 1 =
    elim c.else-word-gt1.branch [ else-word-gt1-via-then-word-gt1+else-word-eq48 w ↦ omega arith | else-word-gt1-via-else-word-gt1 w ↦ omega arith ] in
    let fits = decimal_from_digits word digits c.requires single (omega arith) in
    (omega arith, cc)
