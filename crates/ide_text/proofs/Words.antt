-- Words between the spaces of a line, and that they tell the tokens.
use Rattle.std.proofs.Common.{ℕ, ◌<◌, ◌≡◌, ◌≢◌, ◌==◌, Bool, true, false, ◌&&◌, ◌||◌, List, [], ◌∷◌, ◌++◌, Some, None, length, get_or, map, codes, decimal, unwrap_or, cond, bytes_eq, ap, sym, refl, ◌∙◌, subst, arith, append_assoc}
use Rattle.std.specs.List.{AllByRecursion, list_all, slice_split, join_with_byte}
use Rattle.std.specs.Map.{lookup}
use Rattle.std.specs.Char.{is_ascii_digit}
use Rattle.std.specs.Int.{IsInRange}
use Rattle.std.specs.Str.Parse.{AllDigits, digits_value}
use Rattle.std.proofs.lemmas.Bool.{false≢true}
use Rattle.std.proofs.lemmas.Bool.Decides.{nat_tests}
use Rattle.std.proofs.lemmas.List.{append-nil}
use Rattle.std.proofs.lemmas.List.Elements.{All-from_recursion}
use Rattle.std.proofs.lemmas.List.Splits.{slice_split_none, slice_split_at, join_with_byte-slice_split}
use Rattle.std.proofs.lemmas.Slice.Eq.{bytes_eq-Decides}
use Rattle.std.proofs.lemmas.Str.Parse.{digit_from_value}
use Rattle.ide_text.specs.declared.token.Token.{Token}
use Rattle.ide_text.specs.declared.token.Token.TheVariants as token
use Rattle.ide_text.specs.declared.line.Line.{Line}
use Rattle.ide_text.specs.declared.line.Line.TheVariants.{Global, Procedure as Begin, Local, End, Statement as Step}
use Rattle.ide_text.specs.declared.program.Statement.{Statement}
use Rattle.ide_text.specs.declared.program.Statement.TheVariants.{Assign, Skip, At, Goto, Branch, Call, Return}
use Rattle.ide_text.specs.declared.program.Expression.{Expression}
use Rattle.ide_text.specs.declared.program.Expression.TheVariants.{Number, Copy, Sum, Difference, Unknown, Mix}
use Rattle.ide_text.specs.Grammar.{HasNameBytes, IsName, IsNumber, IsExpression, IsStatement, IsLine, begins_name, continues_name}
use Rattle.ide_text.specs.Text.{line_text, bars_text, callees_text, names_text, statement_text, expression_text}
use Rattle.ide_text.specs.Token.{HasCallee, HasCalleeOnLine, IsToken, Lacks, Tokenizes, bar_tokens, callee_tokens, token_text, expression_tokens, name_tokens, statement_tokens, line_tokens}
use Rattle.ide_text.proofs.Numbers.{digits_from_decimal, value_from_decimal, nonempty_decimal}

-- ---- the bytes of tokens
abbrev pub is_token_byte : ℕ → Bool
is_token_byte b = continues_name b || (b == 61 || (b == 43 || (b == 45 || (b == 63 || b == 124))))

pub and_parts : (a b : Bool) → (a && b) ≡ true → (a ≡ true) × (b ≡ true)
and_parts true b h = (refl, h)
and_parts false b h = absurd (false≢true h)

pub and_from : (a b : Bool) → a ≡ true → b ≡ true → (a && b) ≡ true
and_from true b p q = q
and_from false b p q = absurd (false≢true p)

pub or_left : (a b : Bool) → a ≡ true → (a || b) ≡ true
or_left true b p = refl
or_left false b p = absurd (false≢true p)

pub list_all_weaker : (p q : ℕ → Bool) → ((b : ℕ) → p b ≡ true → q b ≡ true) → (bs : List ℕ) → list_all p bs ≡ true → list_all q bs ≡ true
list_all_weaker p q each [] h = refl
list_all_weaker p q each (b ∷ bs) h =
    let parts = and_parts (p b) (list_all p bs) h in
    and_from (q b) (list_all q bs) (each b parts.0) (list_all_weaker p q each bs parts.1)

begins-continues : (b : ℕ) → begins_name b ≡ true → continues_name b ≡ true
begins-continues b h = grind (arith, nat_tests)

digit-continues : (b : ℕ) → IsInRange 48 57 b → continues_name b ≡ true
digit-continues b h = grind (arith, nat_tests)

name_bytes : (name : List ℕ) → HasNameBytes name → list_all is_token_byte name ≡ true
name_bytes [] h = refl
name_bytes (b ∷ bs) h = and_from _ _ (or_left _ _ (begins-continues b h.0)) (list_all_weaker continues_name is_token_byte (λ b. or_left (continues_name b) _) bs h.1)

digit_bytes : (ds : List ℕ) → AllDigits 10 ds → list_all is_token_byte ds ≡ true
digit_bytes [] h = refl
digit_bytes (d ∷ ds) h = and_from _ _ (or_left _ _ (digit-continues d (digit_from_value d h.0))) (digit_bytes ds h.1)

pub token_bytes : (t : Token) → IsToken t → list_all is_token_byte (token_text t) ≡ true
token_bytes token.Global is = refl
token_bytes token.Proc is = refl
token_bytes token.Var is = refl
token_bytes token.End is = refl
token_bytes token.Skip is = refl
token_bytes token.At is = refl
token_bytes token.Goto is = refl
token_bytes token.Branch is = refl
token_bytes token.Call is = refl
token_bytes token.Return is = refl
token_bytes token.Mix is = refl
token_bytes token.Equals is = refl
token_bytes token.Plus is = refl
token_bytes token.Minus is = refl
token_bytes token.Question is = refl
token_bytes token.Bar is = refl
token_bytes (token.Name n) is = name_bytes n is.0
token_bytes (token.Number n) is = digit_bytes (decimal n) (digits_from_decimal n (decimal n) is refl)

same_byte : (b s : ℕ) → (b == s) ≡ true → b ≡ s
same_byte b s e = grind (arith, nat_tests)

-- a byte of which a test holds is no byte s of which it doesn't
pub not_byte_from : (test : ℕ → Bool) (s b : ℕ) → test s ≡ false → test b ≡ true → (b == s) ≡ false
not_byte_from test s b no_s yes_b = elim (b == s) as (λ r. (b == s) ≡ r → r ≡ false) [ true ↦ λ e. absurd (false≢true (sym no_s ∙ ap test (sym (same_byte b s e)) ∙ yes_b)) | false ↦ λ e. refl ] refl

-- a word of such bytes has no other byte s
pub lacks : (s : ℕ) → is_token_byte s ≡ false → (bs : List ℕ) → list_all is_token_byte bs ≡ true → AllByRecursion (λ b. (b == s) ≡ false) bs
lacks s no_s [] h = tt
lacks s no_s (b ∷ bs) h =
    let parts = and_parts (is_token_byte b) (list_all is_token_byte bs) h in
    (not_byte_from is_token_byte s b no_s parts.0, lacks s no_s bs parts.1)

-- ---- words joined, and cut again
self_equal : (s : ℕ) → (s == s) ≡ true
self_equal s = grind (arith, nat_tests)

split_join : (s : ℕ) (w : List ℕ) (ws : List (List ℕ)) → AllByRecursion (λ v. AllByRecursion (λ b. (b == s) ≡ false) v) (w ∷ ws) →
    slice_split (λ b. b == s) (join_with_byte s (w ∷ ws)) ≡ w ∷ ws
split_join s w [] h = slice_split_none (λ b. b == s) w (All-from_recursion _ w h.0)
split_join s w (v ∷ ws) h =
    slice_split_at (λ b. b == s) w s (join_with_byte s (v ∷ ws)) (All-from_recursion _ w h.0) (self_equal s)
    ∙ ap (λ vs. w ∷ vs) (split_join s v ws h.1)

words_lack : (s : ℕ) → is_token_byte s ≡ false → (ts : List Token) → AllByRecursion IsToken ts → AllByRecursion (λ v. AllByRecursion (λ b. (b == s) ≡ false) v) (map token_text ts)
words_lack s no_s [] h = tt
words_lack s no_s (t ∷ ts) h = (lacks s no_s (token_text t) (token_bytes t h.0), words_lack s no_s ts h.1)

-- the words of tokens, joined by single spaces
abbrev pub tokens_text : List Token → List ℕ
tokens_text ts = join_with_byte 32 (map token_text ts)

-- a text is that of its tokens
pub text_from_tokens : (text : List ℕ) (ts : List Token) → Tokenizes text ts → tokens_text ts ≡ text
text_from_tokens text ts h = ap (join_with_byte 32) h.words ∙ join_with_byte-slice_split 32 text

-- what some tokens spell has them as its tokens
pub Tokenizes-tokens_text : (text : List ℕ) (t : Token) (ts : List Token) → AllByRecursion IsToken (t ∷ ts) → tokens_text (t ∷ ts) ≡ text → Tokenizes text (t ∷ ts)
Tokenizes-tokens_text text t ts h e = record {
  words = sym (split_join 32 (token_text t) (map token_text ts) (words_lack 32 refl (t ∷ ts) h)) ∙ ap (slice_split (λ b. b == 32)) e;
  proper = h;
}

-- ---- the text of a line is that of its tokens
join_names : (w : List ℕ) (names : List (List ℕ)) → join_with_byte 32 (w ∷ map token_text (name_tokens names)) ≡ w ++ names_text names
join_names w [] = sym (append-nil w)
join_names w (n ∷ names) = ap (λ text. w ++ 32 ∷ text) (join_names n names)

join_bars : (w : List ℕ) (callees arguments : List (List ℕ)) → join_with_byte 32 (w ∷ map token_text (bar_tokens callees ++ name_tokens arguments)) ≡ w ++ bars_text callees ++ names_text arguments
join_bars w [] arguments = join_names w arguments ∙ ap (λ text. text ++ names_text arguments) (sym (append-nil w))
join_bars w (c ∷ callees) arguments =
    ap (λ text. w ++ 32 ∷ 124 ∷ 32 ∷ text) (join_bars c callees arguments)
    ∙ sym (append_assoc w (codes " | " ++ c ++ bars_text callees) (names_text arguments))

join_call : (w : List ℕ) (callees arguments : List (List ℕ)) → join_with_byte 32 (w ∷ map token_text (callee_tokens callees ++ name_tokens arguments)) ≡ w ++ callees_text callees ++ names_text arguments
join_call w [] arguments = join_bars w [] arguments
join_call w (c ∷ callees) arguments =
    ap (λ text. w ++ 32 ∷ text) (join_bars c callees arguments)
    ∙ sym (append_assoc w (codes " " ++ c ++ bars_text callees) (names_text arguments))

assigned : (x : List ℕ) (e : Expression) → tokens_text (token.Name x ∷ token.Equals ∷ expression_tokens e) ≡ x ++ codes " = " ++ expression_text e
assigned x (Number n) = sym (append_assoc x (codes " = ") (decimal n))
assigned x (Copy y) = sym (append_assoc x (codes " = ") y)
assigned x (Sum y n) = simp append_assoc
assigned x (Difference y n) = simp append_assoc
assigned x Unknown = simp append_assoc
assigned x (Mix y z) = simp append_assoc

statement_spelled : (s : Statement) → tokens_text (statement_tokens s) ≡ statement_text s
statement_spelled (Assign x e) = assigned x e
statement_spelled Skip = refl
statement_spelled (At l) = refl
statement_spelled (Goto l) = refl
statement_spelled (Branch l) = refl
statement_spelled (Call None callees arguments) = join_call (codes "call") callees.items arguments.items
statement_spelled (Call (Some x) callees arguments) =
    ap (λ text. x ++ 32 ∷ 61 ∷ 32 ∷ text) (join_call (codes "call") callees.items arguments.items) ∙ simp append_assoc
statement_spelled (Return None) = refl
statement_spelled (Return (Some y)) = refl

pub line_spelled : (l : Line) → tokens_text (line_tokens l) ≡ line_text l
line_spelled (Global g) = refl
line_spelled (Begin p parameters) = ap (λ text. codes "proc " ++ text) (join_names p parameters.items) ∙ sym (append_assoc (codes "proc ") p (names_text parameters.items))
line_spelled (Local x) = refl
line_spelled End = refl
line_spelled (Step s) = statement_spelled s

-- ---- a line is of the grammar where its tokens are
names_proper : (names : List (List ℕ)) → AllByRecursion IsName names → AllByRecursion IsToken (name_tokens names)
names_proper [] h = tt
names_proper (n ∷ names) h = (h.0, names_proper names h.1)

names_from_proper : (names : List (List ℕ)) → AllByRecursion IsToken (name_tokens names) → AllByRecursion IsName names
names_from_proper [] h = tt
names_from_proper (n ∷ names) h = (h.0, names_from_proper names h.1)

proper_append : (ts us : List Token) → AllByRecursion IsToken ts → AllByRecursion IsToken us → AllByRecursion IsToken (ts ++ us)
proper_append [] us h k = k
proper_append (t ∷ ts) us h k = (h.0, proper_append ts us h.1 k)

proper_parts : (ts us : List Token) → AllByRecursion IsToken (ts ++ us) → AllByRecursion IsToken ts × AllByRecursion IsToken us
proper_parts [] us h = (tt, h)
proper_parts (t ∷ ts) us h = let parts = proper_parts ts us h.1 in ((h.0, parts.0), parts.1)

bars_proper : (callees : List (List ℕ)) → AllByRecursion IsName callees → AllByRecursion IsToken (bar_tokens callees)
bars_proper [] h = tt
bars_proper (c ∷ callees) h = (tt, (h.0, bars_proper callees h.1))

callees_proper : (callees : List (List ℕ)) → AllByRecursion IsName callees → AllByRecursion IsToken (callee_tokens callees)
callees_proper [] h = tt
callees_proper (c ∷ callees) h = (h.0, bars_proper callees h.1)

bars_from_proper : (callees : List (List ℕ)) → AllByRecursion IsToken (bar_tokens callees) → AllByRecursion IsName callees
bars_from_proper [] h = tt
bars_from_proper (c ∷ callees) h = (h.1.0, bars_from_proper callees h.1.1)

callees_from_proper : (callees : List (List ℕ)) → AllByRecursion IsToken (callee_tokens callees) → AllByRecursion IsName callees
callees_from_proper [] h = tt
callees_from_proper (c ∷ callees) h = (h.0, bars_from_proper callees h.1)

expression_proper : (e : Expression) → IsExpression e → AllByRecursion IsToken (expression_tokens e)
expression_proper (Number n) h = (h, tt)
expression_proper (Copy y) h = (h, tt)
expression_proper (Sum y n) h = (h.0, (tt, (h.1, tt)))
expression_proper (Difference y n) h = (h.0, (tt, (h.1, tt)))
expression_proper Unknown h = (tt, tt)
expression_proper (Mix y z) h = (tt, (h.0, (h.1, tt)))

expression_from_proper : (e : Expression) → AllByRecursion IsToken (expression_tokens e) → IsExpression e
expression_from_proper (Number n) h = h.0
expression_from_proper (Copy y) h = h.0
expression_from_proper (Sum y n) h = (h.0, h.1.1.0)
expression_from_proper (Difference y n) h = (h.0, h.1.1.0)
expression_from_proper Unknown h = tt
expression_from_proper (Mix y z) h = (h.1.0, h.1.1.0)

statement_proper : (s : Statement) → IsStatement s → AllByRecursion IsToken (statement_tokens s) × HasCallee s
statement_proper (Assign x e) h = ((h.0, (tt, expression_proper e h.1)), tt)
statement_proper Skip h = ((tt, tt), tt)
statement_proper (At l) h = ((tt, (h, tt)), tt)
statement_proper (Goto l) h = ((tt, (h, tt)), tt)
statement_proper (Branch l) h = ((tt, (h, tt)), tt)
statement_proper (Call None callees arguments) h = ((tt, proper_append _ _ (callees_proper callees.items h.2) (names_proper arguments.items h.3)), h.1)
statement_proper (Call (Some x) callees arguments) h = ((h.0, (tt, (tt, proper_append _ _ (callees_proper callees.items h.2) (names_proper arguments.items h.3)))), h.1)
statement_proper (Return None) h = ((tt, tt), tt)
statement_proper (Return (Some y)) h = ((tt, (h, tt)), tt)

statement_from_proper : (s : Statement) → AllByRecursion IsToken (statement_tokens s) → HasCallee s → IsStatement s
statement_from_proper (Assign x e) h one = (h.0, expression_from_proper e h.1.1)
statement_from_proper Skip h one = tt
statement_from_proper (At l) h one = h.1.0
statement_from_proper (Goto l) h one = h.1.0
statement_from_proper (Branch l) h one = h.1.0
statement_from_proper (Call None callees arguments) h one =
    let parts = proper_parts (callee_tokens callees.items) (name_tokens arguments.items) h.1 in
    (tt, one, callees_from_proper callees.items parts.0, names_from_proper arguments.items parts.1)
statement_from_proper (Call (Some x) callees arguments) h one =
    let parts = proper_parts (callee_tokens callees.items) (name_tokens arguments.items) h.1.1.1 in
    (h.0, one, callees_from_proper callees.items parts.0, names_from_proper arguments.items parts.1)
statement_from_proper (Return None) h one = tt
statement_from_proper (Return (Some y)) h one = h.1.0

pub line_proper : (l : Line) → IsLine l → AllByRecursion IsToken (line_tokens l) × HasCalleeOnLine l
line_proper (Global g) h = ((tt, (h, tt)), tt)
line_proper (Begin p parameters) h = ((tt, (h.0, names_proper parameters.items h.1)), tt)
line_proper (Local x) h = ((tt, (h, tt)), tt)
line_proper End h = ((tt, tt), tt)
line_proper (Step s) h = statement_proper s h

pub line_from_proper : (l : Line) → AllByRecursion IsToken (line_tokens l) → HasCalleeOnLine l → IsLine l
line_from_proper (Global g) h one = h.1.0
line_from_proper (Begin p parameters) h one = (h.1.0, names_from_proper parameters.items h.1.1)
line_from_proper (Local x) h one = h.1.0
line_from_proper End h one = tt
line_from_proper (Step s) h one = statement_from_proper s h one

-- ---- a text has one list of tokens at most
-- the tokens that have one text alone
abbrev fixed : List (List ℕ × Token)
fixed =
    (codes "global", token.Global) ∷ (codes "proc", token.Proc) ∷ (codes "var", token.Var) ∷ (codes "end", token.End)
    ∷ (codes "skip", token.Skip) ∷ (codes "at", token.At) ∷ (codes "goto", token.Goto) ∷ (codes "branch", token.Branch)
    ∷ (codes "call", token.Call) ∷ (codes "return", token.Return) ∷ (codes "mix", token.Mix)
    ∷ (codes "=", token.Equals) ∷ (codes "+", token.Plus) ∷ (codes "-", token.Minus) ∷ (codes "?", token.Question) ∷ (codes "|", token.Bar) ∷ []

-- the token that a word spells
abbrev token_at : List ℕ → Token
token_at word = unwrap_or (lookup (bytes_eq word) fixed) (cond (is_ascii_digit (get_or word 0 0)) (token.Number (digits_value 10 word)) (token.Name word))

bytes_differ : (word text : List ℕ) → word ≢ text → bytes_eq word text ≡ false
bytes_differ word text ne = elim (bytes_eq word text) as (λ r. bytes_eq word text ≡ r → r ≡ false) [ true ↦ λ e. absurd (ne ((bytes_eq-Decides word text).0 e)) | false ↦ λ e. refl ] refl

lookup_none : (word : List ℕ) (table : List (List ℕ × Token)) → AllByRecursion (λ entry. word ≢ entry.0) table → lookup (bytes_eq word) table ≡ None
lookup_none word [] h = refl
lookup_none word (entry ∷ table) h = rw (bytes_differ word entry.0 h.0) (lookup_none word table h.1)

unfixed : (word : List ℕ) → AllByRecursion (λ entry. word ≢ entry.0) fixed →
    token_at word ≡ cond (is_ascii_digit (get_or word 0 0)) (token.Number (digits_value 10 word)) (token.Name word)
unfixed word h = ap (λ o. unwrap_or o (cond (is_ascii_digit (get_or word 0 0)) (token.Number (digits_value 10 word)) (token.Name word))) (lookup_none word fixed h)

-- a word is no text that begins otherwise
begins_other : (word text : List ℕ) (test : ℕ → Bool) → test (get_or word 0 0) ≡ true → test (get_or text 0 0) ≡ false → word ≢ text
begins_other word text test yes_word no_text e = false≢true (sym no_text ∙ ap (λ (w : List ℕ). test (get_or w 0 0)) (sym e) ∙ yes_word)

digit_unfixed : (word : List ℕ) → is_ascii_digit (get_or word 0 0) ≡ true → AllByRecursion (λ entry. word ≢ entry.0) fixed
digit_unfixed word d =
    let other : (text : List ℕ) → is_ascii_digit (get_or text 0 0) ≡ false → word ≢ text = λ text. begins_other word text is_ascii_digit d in
    (other _ refl, (other _ refl, (other _ refl, (other _ refl, (other _ refl, (other _ refl, (other _ refl, (other _ refl, (other _ refl, (other _ refl, (other _ refl, (other _ refl, (other _ refl, (other _ refl, (other _ refl, (other _ refl, tt))))))))))))))))

name_unfixed : (name : List ℕ) → IsName name → AllByRecursion (λ entry. name ≢ entry.0) fixed
name_unfixed [] h = absurd h.0
name_unfixed (b ∷ bs) h =
    let other : (text : List ℕ) → begins_name (get_or text 0 0) ≡ false → b ∷ bs ≢ text = λ text. begins_other (b ∷ bs) text begins_name h.0.0 in
    let r = h.1 in (
      r.0,
      (
        r.1.0,
        (
          r.1.1.0,
          (
            r.1.1.1.0,
            (
              r.1.1.1.1.0,
              (
                r.1.1.1.1.1.0,
                (
                  r.1.1.1.1.1.1.0,
                  (
                    r.1.1.1.1.1.1.1.0,
                    (
                      r.1.1.1.1.1.1.1.1.0,
                      (
                        r.1.1.1.1.1.1.1.1.1.0,
                        (
                          r.1.1.1.1.1.1.1.1.1.1.0,
                          (other _ refl, (other _ refl, (other _ refl, (other _ refl, (other _ refl, tt))))),
                        ),
                      ),
                    ),
                  ),
                ),
              ),
            ),
          ),
        ),
      ),
    )

letter_no_digit : (b : ℕ) → begins_name b ≡ true → is_ascii_digit b ≡ false
letter_no_digit b h = grind (arith, nat_tests)

name_starts : (name : List ℕ) → HasNameBytes name → is_ascii_digit (get_or name 0 0) ≡ false
name_starts [] h = absurd h
name_starts (b ∷ bs) h = letter_no_digit b h.0

digits_start : (ds : List ℕ) → AllDigits 10 ds → 0 < length ds → is_ascii_digit (get_or ds 0 0) ≡ true
digits_start [] h some = absurd (omega arith)
digits_start (d ∷ ds) h some = let range : IsInRange 48 57 d = digit_from_value d h.0 in grind (arith, nat_tests)

number_starts : (n : ℕ) → IsNumber n → is_ascii_digit (get_or (decimal n) 0 0) ≡ true
number_starts n low = digits_start (decimal n) (digits_from_decimal n (decimal n) low refl) (nonempty_decimal n (decimal n) low refl)

token_at-token_text : (t : Token) → IsToken t → token_at (token_text t) ≡ t
token_at-token_text token.Global is = refl
token_at-token_text token.Proc is = refl
token_at-token_text token.Var is = refl
token_at-token_text token.End is = refl
token_at-token_text token.Skip is = refl
token_at-token_text token.At is = refl
token_at-token_text token.Goto is = refl
token_at-token_text token.Branch is = refl
token_at-token_text token.Call is = refl
token_at-token_text token.Return is = refl
token_at-token_text token.Mix is = refl
token_at-token_text token.Equals is = refl
token_at-token_text token.Plus is = refl
token_at-token_text token.Minus is = refl
token_at-token_text token.Question is = refl
token_at-token_text token.Bar is = refl
token_at-token_text (token.Name n) is =
    unfixed n (name_unfixed n is) ∙ ap (λ b. cond b (token.Number (digits_value 10 n)) (token.Name n)) (name_starts n is.0)
token_at-token_text (token.Number n) is =
    unfixed (decimal n) (digit_unfixed (decimal n) (number_starts n is))
    ∙ ap (λ b. cond b (token.Number (digits_value 10 (decimal n))) (token.Name (decimal n))) (number_starts n is)
    ∙ ap (λ m. token.Number m) (value_from_decimal n (decimal n) is refl)

same_tokens : (ts us : List Token) → AllByRecursion IsToken ts → AllByRecursion IsToken us → map token_text ts ≡ map token_text us → ts ≡ us
same_tokens [] [] h k e = refl
same_tokens [] (u ∷ us) h k e = absurd (cc)
same_tokens (t ∷ ts) [] h k e = absurd (cc)
same_tokens (t ∷ ts) (u ∷ us) h k e =
    let head : token_text t ≡ token_text u = cc in
    let tail : map token_text ts ≡ map token_text us = cc in
    let same : t ≡ u = sym (token_at-token_text t h.0) ∙ ap token_at head ∙ token_at-token_text u k.0 in
    let rest = same_tokens ts us h.1 k.1 tail in
    cc

pub Tokenizes-one : (text : List ℕ) (ts us : List Token) → Tokenizes text ts → Tokenizes text us → ts ≡ us
Tokenizes-one text ts us h k = same_tokens ts us h.proper k.proper (h.words ∙ sym k.words)

-- ---- lines
some_tokens : (l : Line) (text : List ℕ) → AllByRecursion IsToken (line_tokens l) → tokens_text (line_tokens l) ≡ text → Tokenizes text (line_tokens l)
some_tokens (Global g) text h e = Tokenizes-tokens_text text _ _ h e
some_tokens (Begin p parameters) text h e = Tokenizes-tokens_text text _ _ h e
some_tokens (Local x) text h e = Tokenizes-tokens_text text _ _ h e
some_tokens End text h e = Tokenizes-tokens_text text _ _ h e
some_tokens (Step (Assign x v)) text h e = Tokenizes-tokens_text text _ _ h e
some_tokens (Step Skip) text h e = Tokenizes-tokens_text text _ _ h e
some_tokens (Step (At l)) text h e = Tokenizes-tokens_text text _ _ h e
some_tokens (Step (Goto l)) text h e = Tokenizes-tokens_text text _ _ h e
some_tokens (Step (Branch l)) text h e = Tokenizes-tokens_text text _ _ h e
some_tokens (Step (Call None callees arguments)) text h e = Tokenizes-tokens_text text _ _ h e
some_tokens (Step (Call (Some x) callees arguments)) text h e = Tokenizes-tokens_text text _ _ h e
some_tokens (Step (Return y)) text h e = Tokenizes-tokens_text text _ _ h e

-- a line of the grammar has its tokens
pub Tokenizes-line : (l : Line) (text : List ℕ) → IsLine l → line_text l ≡ text → Tokenizes text (line_tokens l)
Tokenizes-line l text is e = some_tokens l text (line_proper l is).0 (line_spelled l ∙ e)

-- a line that has the tokens of a text is of the grammar, and is that text
pub line_from_tokens : (l : Line) (text : List ℕ) (ts : List Token) → Tokenizes text ts → line_tokens l ≡ ts → HasCalleeOnLine l → (line_text l ≡ text) × IsLine l
line_from_tokens l text ts h e one =
    let proper : AllByRecursion IsToken (line_tokens l) = subst (AllByRecursion IsToken) (sym e) h.proper in
    (sym (line_spelled l) ∙ ap tokens_text e ∙ text_from_tokens text ts h, line_from_proper l proper one)

-- ---- a text word by word
-- each word of a text that has tokens is that of a token
pub word_spelled : (ts : List Token) (before after : List (List ℕ)) (word : List ℕ) → AllByRecursion IsToken ts → map token_text ts ≡ before ++ word ∷ after →
    (t : Token) × IsToken t × (token_text t ≡ word)
word_spelled [] [] after word h e = absurd (cc)
word_spelled [] (v ∷ before) after word h e = absurd (cc)
word_spelled (t ∷ ts) [] after word h e = (t, h.0, cc)
word_spelled (t ∷ ts) (v ∷ before) after word h e = word_spelled ts before after word h.1 (cc)

-- a word that no token spells
pub no_tokens : (text : List ℕ) (before after : List (List ℕ)) (word : List ℕ) → slice_split (λ b. b == 32) text ≡ before ++ word ∷ after →
    ((t : Token) → IsToken t → token_text t ≢ word) → (ts : List Token) → ¬ (Tokenizes text ts)
no_tokens text before after word e none ts h = let t = word_spelled ts before after word h.proper (h.words ∙ e) in none t.0 t.1 t.2

-- the first word of a text, and its last
pub first_word : (text word after : List ℕ) → Lacks 32 word → text ≡ word ++ 32 ∷ after → slice_split (λ b. b == 32) text ≡ word ∷ slice_split (λ b. b == 32) after
first_word text word after h e = ap (slice_split (λ b. b == 32)) e ∙ slice_split_at (λ b. b == 32) word 32 after h refl

pub last_word : (text : List ℕ) → Lacks 32 text → slice_split (λ b. b == 32) text ≡ text ∷ []
last_word text h = slice_split_none (λ b. b == 32) text h

pub proper_more : (ts : List Token) (t : Token) → AllByRecursion IsToken ts → IsToken t → AllByRecursion IsToken (ts ++ t ∷ [])
proper_more ts t h is = proper_append ts (t ∷ []) h (is, tt)

pub words_more : (ts : List Token) (t : Token) (word : List ℕ) (words : List (List ℕ)) → token_text t ≡ word → map token_text (ts ++ t ∷ []) ++ words ≡ map token_text ts ++ word ∷ words
words_more [] t word words e = cc
words_more (u ∷ ts) t word words e = ap (λ vs. token_text u ∷ vs) (words_more ts t word words e)
