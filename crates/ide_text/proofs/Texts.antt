-- Texts of lines.
use Rattle.std.proofs.Common.{ℕ, ◌+◌, ◌≤◌, ◌≡◌, ◌≢◌, ◌==◌, Bool, true, false, ◌||◌, List, [], ◌∷◌, ◌++◌, codes, length, map, reverse, vec_len, sum_by, inl, inr, ap, sym, refl, ◌∙◌, subst, arith, append_assoc}
use Rattle.std.specs.List.{AllByRecursion, list_all, flat_map}
use Rattle.std.proofs.lemmas.Bool.{false≢true}
use Rattle.std.proofs.lemmas.List.{append-nil, reverse-append, length-append, length-map, length-reverse}
use Rattle.std.proofs.lemmas.List.Elements.{recursion_from_All}
use Rattle.std.proofs.lemmas.List.Sums.{sum_by-cons}
use Rattle.ide_wire.specs.declared.refused.Fault.{Fault}
use Rattle.ide_wire.specs.declared.refused.Fault.TheVariants as fault
use Rattle.ide_text.specs.declared.token.Token.{Token}
use Rattle.ide_text.specs.declared.line.Line.{Line}
use Rattle.ide_text.specs.declared.line.Line.TheVariants.{Global, Procedure as Begin, Local, End, Statement as Step}
use Rattle.ide_text.specs.declared.program.Procedure.{Procedure}
use Rattle.ide_text.specs.declared.program.Draft.{Draft}
use Rattle.ide_text.specs.FirstFault.{AreTaken, BeginsNoLine, FirstFault, MayEnd, lines_text}
use Rattle.ide_text.specs.Grammar.{IsLine, IsProcedure, IsProgram, Spells}
use Rattle.ide_text.specs.Lines.{ended_lines, global_lines, open_lines, draft_lines}
use Rattle.ide_text.specs.Draft.{draft_globals, draft_line_count, lines_of_procedure, draft_procedures}
use Rattle.ide_text.specs.declared.flaw.Flaw.{Flaw}
use Rattle.ide_text.specs.declared.flaw.Flaw.TheVariants as flaw
use Rattle.ide_text.specs.Flaw.{IfFaulty}
use Rattle.ide_text.specs.Reader.{RefusesLine}
use Rattle.ide_text.specs.Refusal.{IsFirstFault, refusal_on}
use Rattle.ide_text.specs.Text.{globals_text, line_text, locals_text, names_text, procedures_text, draft_text, statements_text}
use Rattle.ide_text.specs.Token.{IsToken, Lacks, token_text, line_tokens}
use Rattle.ide_text.proofs.Words.{and_parts, and_from, is_token_byte, list_all_weaker, line_proper, line_spelled, not_byte_from, or_left, token_bytes, tokens_text}

-- ---- the lengths
pub length_lines_le : (ls : List Line) → length ls ≤ length (lines_text ls)
length_lines_le [] = omega arith
length_lines_le (l ∷ ls) = omega (arith, length_lines_le ls, length-append (lines_text ls ++ line_text l) (codes "\n"), length-append (lines_text ls) (line_text l))

-- ---- appends
lines_text-append : (xs ys : List Line) → lines_text (xs ++ ys) ≡ lines_text ys ++ lines_text xs
lines_text-append [] ys = sym (append-nil (lines_text ys))
lines_text-append (x ∷ xs) ys = ap (λ t. t ++ line_text x ++ codes "\n") (lines_text-append xs ys) ∙ simp append_assoc

lines_text_kind : {X : Type 0} (f : X → Line) (xs : List X) → lines_text (reverse (map f xs)) ≡ flat_map (λ x. line_text (f x) ++ codes "\n") xs
lines_text_kind f [] = refl
lines_text_kind f (x ∷ xs) =
    ap lines_text (reverse-append (f x ∷ []) (map f xs))
    ∙ lines_text-append (reverse (map f xs)) (f x ∷ [])
    ∙ ap (λ t. line_text (f x) ++ codes "\n" ++ t) (lines_text_kind f xs)

open_text : (p : Procedure) → lines_text (open_lines p) ≡ codes "proc " ++ p.name ++ names_text p.parameters.items ++ codes "\n" ++ locals_text p.locals.items ++ statements_text p.statements.items
open_text p =
    let steps = reverse (map (λ s. Step s) p.statements.items) in
    let locals = reverse (map (λ x. Local x) p.locals.items) in
    lines_text-append steps (locals ++ Begin p.name p.parameters ∷ [])
    ∙ ap (λ t. t ++ lines_text steps) (lines_text-append locals (Begin p.name p.parameters ∷ []))
    ∙ ap (λ t. (codes "proc " ++ p.name ++ names_text p.parameters.items ++ codes "\n" ++ t) ++ lines_text steps) (lines_text_kind (λ x. Local x) p.locals.items)
    ∙ ap (λ t. codes "proc " ++ p.name ++ names_text p.parameters.items ++ codes "\n" ++ locals_text p.locals.items ++ t) (lines_text_kind (λ s. Step s) p.statements.items)

ended_text : (ps : List Procedure) → lines_text (ended_lines ps) ≡ procedures_text ps
ended_text [] = refl
ended_text (p ∷ ps) =
    lines_text-append (ended_lines ps) (End ∷ open_lines p)
    ∙ ap (λ t. (lines_text (open_lines p) ++ codes "end" ++ codes "\n") ++ t) (ended_text ps)
    ∙ ap (λ t. (t ++ codes "end" ++ codes "\n") ++ procedures_text ps) (open_text p)
    ∙ ap (λ t. t ++ procedures_text ps) (append_assoc (codes "proc " ++ p.name ++ names_text p.parameters.items ++ codes "\n" ++ locals_text p.locals.items ++ statements_text p.statements.items) (codes "end") (codes "\n"))

-- the text of a program is that of its lines
pub program_text_is : (p : Draft) → lines_text (draft_lines p) ≡ draft_text p
program_text_is p =
    lines_text-append (ended_lines (draft_procedures p)) (global_lines (draft_globals p))
    ∙ ap (λ t. t ++ lines_text (ended_lines (draft_procedures p))) (lines_text_kind (λ g. Global g) (draft_globals p))
    ∙ ap (λ t. globals_text (draft_globals p) ++ t) (ended_text (draft_procedures p))

-- ---- how many lines
length_kind : {X : Type 0} (f : X → Line) (xs : List X) → length (reverse (map f xs)) ≡ length xs
length_kind f xs = length-reverse (map f xs) ∙ length-map xs f

length_open : (p : Procedure) → length (open_lines p) ≡ 1 + vec_len p.locals + vec_len p.statements
length_open p =
    let steps = reverse (map (λ s. Step s) p.statements.items) in
    let locals = reverse (map (λ x. Local x) p.locals.items) in
    omega (arith, length-append steps (locals ++ Begin p.name p.parameters ∷ []), length-append locals (Begin p.name p.parameters ∷ []), length_kind (λ s. Step s) p.statements.items, length_kind (λ x. Local x) p.locals.items, p.locals.ok.0, p.statements.ok.0)

length_ended : (ps : List Procedure) → length (ended_lines ps) ≡ sum_by lines_of_procedure ps
length_ended [] = refl
length_ended (p ∷ ps) = omega (arith, length-append (ended_lines ps) (End ∷ open_lines p), length_ended ps, length_open p, sum_by-cons lines_of_procedure p ps)

pub length_program_lines : (p : Draft) → length (draft_lines p) ≡ draft_line_count p
length_program_lines p = omega (arith, length-append (ended_lines (draft_procedures p)) (global_lines (draft_globals p)), length_ended (draft_procedures p), length_kind (λ g. Global g) (draft_globals p))

-- ---- a program whose lines were taken is of the grammar
pub AreTaken-lines : (ls : List Line) → AreTaken ls → AllByRecursion IsLine ls
AreTaken-lines [] h = tt
AreTaken-lines (l ∷ ls) h = (h.1, AreTaken-lines ls h.0)

all_parts : (xs ys : List Line) → AllByRecursion IsLine (xs ++ ys) → AllByRecursion IsLine xs × AllByRecursion IsLine ys
all_parts [] ys h = (tt, h)
all_parts (x ∷ xs) ys h = let parts = all_parts xs ys h.1 in ((h.0, parts.0), parts.1)

all_kind : {X : Type 0} (f : X → Line) (xs : List X) → AllByRecursion IsLine (reverse (map f xs)) → AllByRecursion (λ x. IsLine (f x)) xs
all_kind f [] h = tt
all_kind f (x ∷ xs) h =
    let parts = all_parts (reverse (map f xs)) (f x ∷ []) (subst (AllByRecursion IsLine) (reverse-append (f x ∷ []) (map f xs)) h) in
    (parts.1.0, all_kind f xs parts.0)

open_proper : (p : Procedure) → AllByRecursion IsLine (open_lines p) → IsProcedure p
open_proper p h =
    let steps = reverse (map (λ s. Step s) p.statements.items) in
    let locals = reverse (map (λ x. Local x) p.locals.items) in
    let outer = all_parts steps (locals ++ Begin p.name p.parameters ∷ []) h in
    let inner = all_parts locals (Begin p.name p.parameters ∷ []) outer.1 in
    record {
      name = inner.1.0.0;
      parameters = inner.1.0.1;
      locals = all_kind (λ x. Local x) p.locals.items inner.0;
      statements = all_kind (λ s. Step s) p.statements.items outer.0;
    }

ended_proper : (ps : List Procedure) → AllByRecursion IsLine (ended_lines ps) → AllByRecursion IsProcedure ps
ended_proper [] h = tt
ended_proper (p ∷ ps) h = let parts = all_parts (ended_lines ps) (End ∷ open_lines p) h in (open_proper p parts.1.1, ended_proper ps parts.0)

pub program_proper : (p : Draft) → AllByRecursion IsLine (draft_lines p) → IsProgram p
program_proper p h =
    let parts = all_parts (ended_lines (draft_procedures p)) (global_lines (draft_globals p)) h in
    record { globals = all_kind (λ g. Global g) (draft_globals p) parts.1; procedures = ended_proper (draft_procedures p) parts.0 }

pub Spells-from_lines : (p : Draft) (text : List ℕ) → AreTaken (draft_lines p) → lines_text (draft_lines p) ≡ text → Spells text p
Spells-from_lines p text taken e = record { same = sym (program_text_is p) ∙ e; proper = program_proper p (AreTaken-lines (draft_lines p) taken) }

-- ---- a line of the grammar has no LF
abbrev is_line_byte : ℕ → Bool
is_line_byte b = is_token_byte b || b == 32

list_all-append : (p : ℕ → Bool) (xs ys : List ℕ) → list_all p xs ≡ true → list_all p ys ≡ true → list_all p (xs ++ ys) ≡ true
list_all-append p [] ys h k = k
list_all-append p (x ∷ xs) ys h k = let parts = and_parts (p x) (list_all p xs) h in and_from (p x) _ parts.0 (list_all-append p xs ys parts.1 k)

joined_bytes : (ts : List Token) → AllByRecursion IsToken ts → list_all is_line_byte (tokens_text ts) ≡ true
joined_bytes [] h = refl
joined_bytes (t ∷ []) h = list_all_weaker is_token_byte is_line_byte (λ b. or_left (is_token_byte b) _) (token_text t) (token_bytes t h.0)
joined_bytes (t ∷ u ∷ ts) h =
    list_all-append is_line_byte (token_text t) (32 ∷ tokens_text (u ∷ ts))
    (list_all_weaker is_token_byte is_line_byte (λ b. or_left (is_token_byte b) _) (token_text t) (token_bytes t h.0))
    (joined_bytes (u ∷ ts) h.1)

no_line_feed : (bs : List ℕ) → list_all is_line_byte bs ≡ true → AllByRecursion (λ b. (b == 10) ≡ false) bs
no_line_feed [] h = tt
no_line_feed (b ∷ bs) h =
    let parts = and_parts (is_line_byte b) (list_all is_line_byte bs) h in
    (not_byte_from is_line_byte 10 b refl parts.0, no_line_feed bs parts.1)

pub line_lacks : (l : Line) → IsLine l → AllByRecursion (λ b. (b == 10) ≡ false) (line_text l)
line_lacks l is = no_line_feed (line_text l) (subst (λ t. list_all is_line_byte t ≡ true) (line_spelled l) (joined_bytes (line_tokens l) (line_proper l is).0))

-- ---- what stands before the first LF is one text alone
pub same_before : (a b x y : List ℕ) → AllByRecursion (λ c. (c == 10) ≡ false) a → AllByRecursion (λ c. (c == 10) ≡ false) b → a ++ 10 ∷ x ≡ b ++ 10 ∷ y → (a ≡ b) × (x ≡ y)
same_before [] [] x y h k e = (refl, cc)
same_before [] (d ∷ b) x y h k e = let head : 10 ≡ d = cc in absurd (false≢true (subst (λ c. false ≡ (c == 10)) (sym head) (sym k.0)))
same_before (c ∷ a) [] x y h k e = let head : c ≡ 10 = cc in absurd (false≢true (subst (λ d. false ≡ (d == 10)) head (sym h.0)))
same_before (c ∷ a) (d ∷ b) x y h k e =
    let head : c ≡ d = cc in
    let tail : a ++ 10 ∷ x ≡ b ++ 10 ∷ y = cc in
    let rest = same_before a b x y h.1 k.1 tail in
    let front : a ≡ b = rest.0 in
    (cc, rest.1)

has_line_feed : (a x : List ℕ) → ¬ (AllByRecursion (λ c. (c == 10) ≡ false) (a ++ 10 ∷ x))
has_line_feed [] x h = false≢true (sym h.0)
has_line_feed (c ∷ a) x h = has_line_feed a x h.1

-- ---- faults
pub no_line_from_none : (rest word after : List ℕ) → Lacks 10 word → rest ≡ word ++ 10 ∷ after → ((l : Line) → IsLine l → line_text l ≢ word) → BeginsNoLine rest
no_line_from_none rest word after lacks e none l more is begins =
    let same = same_before word (line_text l) after more (recursion_from_All _ word lacks) (line_lacks l is) (sym e ∙ begins ∙ append_assoc (line_text l) (codes "\n") more) in
    none l is (sym same.0)

pub no_line_unended : (rest : List ℕ) → Lacks 10 rest → BeginsNoLine rest
no_line_unended rest lacks l more is begins =
    has_line_feed (line_text l) more (subst (AllByRecursion (λ c. (c == 10) ≡ false)) (begins ∙ append_assoc (line_text l) (codes "\n") more) (recursion_from_All _ rest lacks))

pub text_more : (text : List ℕ) (before : List Line) (rest word after : List ℕ) (l : Line) → text ≡ lines_text before ++ rest → rest ≡ word ++ 10 ∷ after → line_text l ≡ word → text ≡ lines_text (l ∷ before) ++ after
text_more text before rest word after l at e spelled =
    at ∙ ap (λ t. lines_text before ++ t) e ∙ ap (λ t. lines_text before ++ (t ++ 10 ∷ after)) (sym spelled)
    ∙ simp append_assoc

not_empty : (word after : List ℕ) → word ++ 10 ∷ after ≢ []
not_empty [] after e = cc
not_empty (b ∷ word) after e = cc

-- the fault of a line that was refused is the first
pub FirstFault-refused : (text : List ℕ) (before : List Line) (rest word after : List ℕ) (f : Fault) → AreTaken before → text ≡ lines_text before ++ rest → Lacks 10 word → rest ≡ word ++ 10 ∷ after →
    RefusesLine before word f → FirstFault text (length before + 1) f
FirstFault-refused text before rest word after fault.NoSuchLine taken at lacks e none = record {
  before = before;
  taken = taken;
  at = refl;
  has = (rest, at, (λ empty. not_empty word after (sym e ∙ empty)), no_line_from_none rest word after lacks e none);
}
FirstFault-refused text before rest word after fault.OutOfPlace taken at lacks e w = record {
  before = before;
  taken = taken;
  at = refl;
  has = inl (w.0, after, text_more text before rest word after w.0 at e w.2, w.1, w.3);
}
FirstFault-refused text before rest word after fault.TooMany taken at lacks e w = record {
  before = before;
  taken = taken;
  at = refl;
  has = (w.0, after, text_more text before rest word after w.0 at e w.2, w.1, w.3);
}
FirstFault-refused text before rest word after fault.TextTooLong taken at lacks e w = absurd w.3
FirstFault-refused text before rest word after fault.DeclaredTwice taken at lacks e w = absurd w.3
FirstFault-refused text before rest word after fault.NoSuchVariable taken at lacks e w = absurd w.3
FirstFault-refused text before rest word after fault.NoSuchLabel taken at lacks e w = absurd w.3
FirstFault-refused text before rest word after fault.NoSuchProcedure taken at lacks e w = absurd w.3
FirstFault-refused text before rest word after fault.WrongArguments taken at lacks e w = absurd w.3
FirstFault-refused text before rest word after fault.WrongCallees taken at lacks e w = absurd w.3

pub IsFirstFault-refused : (text : List ℕ) (before : List Line) (rest word after : List ℕ) (line : ℕ) (f : Flaw) → AreTaken before → text ≡ lines_text before ++ rest → Lacks 10 word → rest ≡ word ++ 10 ∷ after →
    line ≡ length before + 1 → IfFaulty f (RefusesLine before word) → IsFirstFault text (refusal_on line f)
IsFirstFault-refused text before rest word after line flaw.NoMemory taken at lacks e on h = tt
IsFirstFault-refused text before rest word after line (flaw.Faulty f) taken at lacks e on h = subst (λ n. FirstFault text n f) (sym on) (FirstFault-refused text before rest word after f taken at lacks e h)

-- the rest after the last LF is no line
pub FirstFault-unended : (text : List ℕ) (before : List Line) (rest : List ℕ) (line : ℕ) → AreTaken before → text ≡ lines_text before ++ rest → Lacks 10 rest → rest ≢ [] → line ≡ length before + 1 → FirstFault text line fault.NoSuchLine
FirstFault-unended text before rest line taken at lacks some on = record { before = before; taken = taken; at = on; has = (rest, at, some, no_line_unended rest lacks) }

-- a text that ends too soon
pub FirstFault-ended : (text : List ℕ) (before : List Line) (rest : List ℕ) (line : ℕ) (f : Fault) → AreTaken before → text ≡ lines_text before ++ rest → rest ≡ [] → ¬ (MayEnd before) → f ≡ fault.OutOfPlace → line ≡ length before + 1 → FirstFault text line f
FirstFault-ended text before rest line f taken at none no_end is on = subst (FirstFault text line) (sym is) (record { before = before; taken = taken; at = on; has = inr (at ∙ ap (λ t. lines_text before ++ t) none ∙ append-nil (lines_text before), no_end) })

-- lines are no more than the bytes of their text
pub lines_fit : (text : List ℕ) (before : List Line) (rest : List ℕ) → text ≡ lines_text before ++ rest → length before ≤ length text
lines_fit text before rest at = omega (arith, ap length at, length-append (lines_text before) rest, length_lines_le before)

pub program_fits : (text : List ℕ) (before : List Line) (rest : List ℕ) (p : Draft) → text ≡ lines_text before ++ rest → draft_lines p ≡ before → draft_line_count p ≤ length text
program_fits text before rest p at e = omega (arith, lines_fit text before rest at, length_program_lines p, ap length e)

pub Spells-at_end : (text : List ℕ) (before : List Line) (rest : List ℕ) (p : Draft) → AreTaken before → text ≡ lines_text before ++ rest → rest ≡ [] → draft_lines p ≡ before → Spells text p
Spells-at_end text before rest p taken at none e = Spells-from_lines p text (subst AreTaken (sym e) taken)
    (ap lines_text e ∙ sym (append-nil (lines_text before)) ∙ ap (λ t. lines_text before ++ t) (sym none) ∙ sym at)
