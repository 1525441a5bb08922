-- Tokens and their spellings.
use Rattle.std.proofs.Common.{ℕ, ◌≡◌, ◌≢◌, true, false, List, [], ◌∷◌, length, get_or, decimal, codes, sym, ap, subst, ◌∙◌, arith, rules, refl}
use Rattle.std.proofs.lemmas.List.{nil_from_length}
use Rattle.std.proofs.lemmas.Bool.{false≢true}
use Rattle.std.proofs.lemmas.Bool.Decides.{nat_tests}
use Rattle.std.proofs.lemmas.Str.Parse.{digit_from_value}
use Rattle.std.specs.Char.{is_ascii_digit}
use Rattle.std.specs.Int.{IsInRange}
use Rattle.std.specs.List.{AllByRecursion}
use Rattle.ide_text.specs.declared.token.Token.{Token}
use Rattle.ide_text.specs.declared.token.Token.TheVariants as token
use Rattle.ide_text.specs.Grammar.{HasNameBytes, IsNumber, begins_name, reserved_words}
use Rattle.ide_text.proofs.Numbers.{digits_from_decimal, nonempty_decimal}
use Rattle.ide_text.specs.Token.{IsToken, token_text}

-- what no kind of token spells, no token spells
pub none_spells : (word : List ℕ) → AllByRecursion (λ text. word ≢ text) reserved_words →
    word ≢ codes "=" → word ≢ codes "+" → word ≢ codes "-" → word ≢ codes "?" → word ≢ codes "|" →
    ¬ (HasNameBytes word) → ((n : ℕ) → IsNumber n → decimal n ≢ word) →
    (t : Token) → IsToken t → token_text t ≢ word
none_spells word unreserved e p m q v name number token.Global is same = unreserved.0 (sym same)
none_spells word unreserved e p m q v name number token.Proc is same = unreserved.1.0 (sym same)
none_spells word unreserved e p m q v name number token.Var is same = unreserved.1.1.0 (sym same)
none_spells word unreserved e p m q v name number token.End is same = unreserved.1.1.1.0 (sym same)
none_spells word unreserved e p m q v name number token.Skip is same = unreserved.1.1.1.1.0 (sym same)
none_spells word unreserved e p m q v name number token.At is same = unreserved.1.1.1.1.1.0 (sym same)
none_spells word unreserved e p m q v name number token.Goto is same = unreserved.1.1.1.1.1.1.0 (sym same)
none_spells word unreserved e p m q v name number token.Branch is same = unreserved.1.1.1.1.1.1.1.0 (sym same)
none_spells word unreserved e p m q v name number token.Call is same = unreserved.1.1.1.1.1.1.1.1.0 (sym same)
none_spells word unreserved e p m q v name number token.Return is same = unreserved.1.1.1.1.1.1.1.1.1.0 (sym same)
none_spells word unreserved e p m q v name number token.Mix is same = unreserved.1.1.1.1.1.1.1.1.1.1.0 (sym same)
none_spells word unreserved e p m q v name number token.Equals is same = e (sym same)
none_spells word unreserved e p m q v name number token.Plus is same = p (sym same)
none_spells word unreserved e p m q v name number token.Minus is same = m (sym same)
none_spells word unreserved e p m q v name number token.Question is same = q (sym same)
none_spells word unreserved e p m q v name number token.Bar is same = v (sym same)
none_spells word unreserved e p m q v name number (token.Name n) is same = name (rw (← same) is.0)
none_spells word unreserved e p m q v name number (token.Number n) is same = number n is same

-- a word that begins with no digit is no number
number_not : (word : List ℕ) (b : ℕ) (bs : List ℕ) → word ≡ b ∷ bs → is_ascii_digit b ≡ false → (n : ℕ) → IsNumber n → decimal n ≢ word
number_not word b bs e no_digit n low same =
    let range : IsInRange 48 57 b = digit_from_value b (digits_from_decimal n (b ∷ bs) low (same ∙ e)).0 in
    grind (arith, nat_tests)

-- a word that begins otherwise, or is longer, is not the sign s
other_sign : (word : List ℕ) (b s : ℕ) (bs : List ℕ) → word ≡ b ∷ bs → b ≢ s → word ≢ s ∷ []
other_sign word b s bs e ne same = ne (ap (λ (w : List ℕ). get_or w 0 0) (sym e ∙ same))

longer_than_sign : (word : List ℕ) (s : ℕ) → length word ≢ 1 → word ≢ s ∷ []
longer_than_sign word s ne same = ne (ap length same)

no_name : (word : List ℕ) (b : ℕ) (bs : List ℕ) → word ≡ b ∷ bs → begins_name b ≡ false → ¬ (HasNameBytes word)
no_name word b bs e no_letter h =
    let shape : HasNameBytes (b ∷ bs) = subst HasNameBytes e h in
    false≢true (sym no_letter ∙ shape.0)

sign_no_letter : (b s : ℕ) → begins_name b ≡ true → begins_name s ≡ false → b ≢ s
sign_no_letter b s yes_b no_s e = false≢true (sym no_s ∙ ap begins_name (sym e) ∙ yes_b)

-- what the first byte rules out
pub letter_spells_none : (word : List ℕ) (b : ℕ) (bs : List ℕ) → word ≡ b ∷ bs → AllByRecursion (λ text. word ≢ text) reserved_words →
    is_ascii_digit b ≡ false → begins_name b ≡ true → ¬ (HasNameBytes word) →
    (t : Token) → IsToken t → token_text t ≢ word
letter_spells_none word b bs e unreserved no_digit letter name = none_spells word unreserved
    (other_sign word b 61 bs e (sign_no_letter b 61 letter refl)) (other_sign word b 43 bs e (sign_no_letter b 43 letter refl))
    (other_sign word b 45 bs e (sign_no_letter b 45 letter refl)) (other_sign word b 63 bs e (sign_no_letter b 63 letter refl))
    (other_sign word b 124 bs e (sign_no_letter b 124 letter refl))
    name (number_not word b bs e no_digit)

pub sign_spells_none : (word : List ℕ) (b : ℕ) (bs : List ℕ) → word ≡ b ∷ bs → AllByRecursion (λ text. word ≢ text) reserved_words →
    is_ascii_digit b ≡ false → begins_name b ≡ false → (b ≢ 61) × (b ≢ 43) × (b ≢ 45) × (b ≢ 63) × (b ≢ 124) →
    (t : Token) → IsToken t → token_text t ≢ word
sign_spells_none word b bs e unreserved no_digit no_letter signs = none_spells word unreserved
    (other_sign word b 61 bs e signs.0) (other_sign word b 43 bs e signs.1) (other_sign word b 45 bs e signs.2) (other_sign word b 63 bs e signs.3)
    (other_sign word b 124 bs e signs.4)
    (no_name word b bs e no_letter) (number_not word b bs e no_digit)

pub longer_spells_none : (word : List ℕ) (b : ℕ) (bs : List ℕ) → word ≡ b ∷ bs → AllByRecursion (λ text. word ≢ text) reserved_words →
    is_ascii_digit b ≡ false → begins_name b ≡ false → length word ≢ 1 →
    (t : Token) → IsToken t → token_text t ≢ word
longer_spells_none word b bs e unreserved no_digit no_letter long = none_spells word unreserved
    (longer_than_sign word 61 long) (longer_than_sign word 43 long) (longer_than_sign word 45 long) (longer_than_sign word 63 long) (longer_than_sign word 124 long)
    (no_name word b bs e no_letter) (number_not word b bs e no_digit)

-- the empty word is no token
no_cons : (b : ℕ) (bs : List ℕ) → [] ≢ b ∷ bs
no_cons b bs e = cc

no_decimal : (n : ℕ) → IsNumber n → decimal n ≢ []
no_decimal n low e = omega (arith, nonempty_decimal n [] low e)

empty_spells : (t : Token) → IsToken t → token_text t ≢ []
empty_spells = none_spells [] (search rules) (no_cons 61 []) (no_cons 43 []) (no_cons 45 []) (no_cons 63 []) (no_cons 124 []) (λ h. h) no_decimal

pub empty_spells_none : (word : List ℕ) → length word ≡ 0 → (t : Token) → IsToken t → token_text t ≢ word
empty_spells_none word none t is same = empty_spells t is (same ∙ nil_from_length word none)
