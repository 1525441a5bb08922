-- Numbers in decimal, against the digits that a word has.
use Rattle.std.proofs.Common.{ℕ, zero, suc, ◌+◌, ◌*◌, ◌-◌, ◌^◌, ◌<◌, ◌≡◌, List, length, get_or, take, decimal, arith, ap}
use Rattle.std.specs.Str.Parse.{AllDigits, digits_value}
use Rattle.std.specs.Int.{IsInRange}
use Rattle.std.proofs.lemmas.Str.{digit_value_digit}
use Rattle.std.proofs.lemmas.Str.Parse.{IsNumeralModel, numerals_by_value, tells_digits, digit_at, digits_value-take-le}
use Rattle.std.proofs.lemmas.Int.Digits.{digits_value_more}
use Rattle.std.proofs.lemmas.Fmt.{digits_decimal, digits_value-decimal, decimal-digits_value, decimal_digit, first_decimal, decimal_nonempty}

own : IsNumeralModel (AllDigits 10) (digits_value 10)
own = numerals_by_value (AllDigits 10) tells_digits

pub digits_from_decimal : (n : ℕ) (word : List ℕ) → n < 2 ^ 64 → decimal n ≡ word → AllDigits 10 word
digits_from_decimal n word low e = rw (← e) (digits_decimal own n low)

pub value_from_decimal : (n : ℕ) (word : List ℕ) → n < 2 ^ 64 → decimal n ≡ word → digits_value 10 word ≡ n
value_from_decimal n word low e = rw (← e) (digits_value-decimal own n low)

pub nonempty_decimal : (n : ℕ) (word : List ℕ) → n < 2 ^ 64 → decimal n ≡ word → 0 < length word
nonempty_decimal n word low e = rw (← e) (decimal_nonempty n low)

-- no zero too many in front
pub no_leading_zero : (n : ℕ) (word : List ℕ) → n < 2 ^ 64 → decimal n ≡ word → get_or word 0 0 ≡ 48 → length word ≡ 1
no_leading_zero zero word low e z = let one : length (decimal 0) ≡ 1 = ap length (decimal_digit 0 (omega arith)) in omega (arith, ap length e)
no_leading_zero (suc n) word low e z =
    let high : 48 < get_or (decimal (suc n)) 0 0 = first_decimal (suc n) (omega arith) low in
    omega (arith, ap (λ (w : List ℕ). get_or w 0 0) e)

-- the value with one digit more is no more than the whole
pub value_fits : (n : ℕ) (word : List ℕ) (i : ℕ) → n < 2 ^ 64 → decimal n ≡ word → i < length word →
    digits_value 10 (take i word) * 10 + (get_or word i 0 - 48) < 2 ^ 64
value_fits n word i low e within =
    let all = digits_from_decimal n word low e in
    let range : IsInRange 48 57 (get_or word i 0) = digit_at word i all within in
    let digit = digit_value_digit (get_or word i 0) range in
    let more = digits_value_more 10 word i within in
    let part = digits_value-take-le 10 word (i + 1) (omega arith) in
    let whole = value_from_decimal n word low e in
    omega arith

-- digits without a zero too many are the decimal of their value
pub decimal_from_digits : (word : List ℕ) → AllDigits 10 word → 0 < length word → (get_or word 0 0 ≡ 48 → length word ≡ 1) → digits_value 10 word < 2 ^ 64 → decimal (digits_value 10 word) ≡ word
decimal_from_digits word = decimal-digits_value own word
