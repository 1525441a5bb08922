-- A text spells one program at most, up to its value.
use Rattle.std.proofs.Common.{ℕ, ◌≤◌, ◌≡◌, ◌==◌, false, cond, List, [], ◌∷◌, ◌++◌, codes, Option, Some, None, length, map, reverse, count_by, ap, sym, refl, ◌∙◌, subst, arith, append_assoc}
use Rattle.std.specs.List.{AllByRecursion}
use Rattle.std.proofs.lemmas.List.{append-nil, reverse-append}
use Rattle.std.proofs.lemmas.List.Sums.{sum_by-append, sum_by-cons}
use Rattle.ide_text.specs.declared.token.Token.{Token}
use Rattle.ide_text.specs.declared.token.Token.TheVariants as token
use Rattle.ide_text.specs.declared.line.Line.{Line}
use Rattle.ide_text.specs.declared.line.Line.TheVariants.{Global, Procedure as Begin, Local, End, Statement as Step}
use Rattle.ide_text.specs.declared.program.Draft.{Draft}
use Rattle.ide_text.specs.declared.program.Procedure.{Procedure}
use Rattle.ide_text.specs.declared.program.Statement.TheVariants.{Assign, Skip, At, Goto, Branch, Call, Return}
use Rattle.ide_text.specs.declared.program.Expression.{Expression}
use Rattle.ide_text.specs.declared.program.Expression.TheVariants.{Number, Copy, Sum, Difference, Unknown, Mix}
use Rattle.ide_text.specs.FirstFault.{lines_text}
use Rattle.ide_text.specs.Grammar.{IsLine, IsProcedure, IsProgram, Spells}
use Rattle.ide_text.specs.Lines.{ended_lines, global_lines, open_lines, draft_lines}
use Rattle.ide_text.specs.Draft.{draft_globals, draft_procedures}
use Rattle.ide_text.specs.Text.{line_text}
use Rattle.ide_text.specs.Token.{bar_tokens, callee_tokens, line_tokens, name_tokens}
use Rattle.ide_text.specs.Value.{ProcedureValue, ProgramValue, StatementValue, calling, other, draft_value, value_of_procedure, value_of_statement}
use Rattle.ide_text.proofs.Shapes.{same_line_tokens}
use Rattle.ide_text.proofs.Texts.{line_lacks, program_text_is}
use Rattle.ide_text.proofs.Unique.{same_lines}

-- the value of a line
pub data LineValue : Type 0 where
  at_global at_local : List ℕ → LineValue
  at_procedure : List ℕ → List (List ℕ) → LineValue
  at_end : LineValue
  at_statement : StatementValue → LineValue

abbrev pub line_value : Line → LineValue
line_value (Global g) = at_global g
line_value (Begin p parameters) = at_procedure p parameters.items
line_value (Local x) = at_local x
line_value End = at_end
line_value (Step s) = at_statement (value_of_statement s)

abbrev pub values : List Line → List LineValue
values ls = map line_value ls

-- ---- the tokens of a line tell its value
abbrev names_in : List Token → List (List ℕ)
names_in (token.Name x ∷ ts) = x ∷ names_in ts
names_in _ = []

abbrev name_in : List Token → List ℕ
name_in (token.Name x ∷ ts) = x
name_in _ = []

abbrev returned_in : List Token → Option (List ℕ)
returned_in (token.Name y ∷ ts) = Some y
returned_in _ = None

abbrev after_name : List ℕ → List Token → Expression
after_name y (token.Plus ∷ token.Number n ∷ ts) = Sum y n
after_name y (token.Minus ∷ token.Number n ∷ ts) = Difference y n
after_name y _ = Copy y

abbrev expression_in : List Token → Expression
expression_in (token.Number n ∷ ts) = Number n
expression_in (token.Name y ∷ ts) = after_name y ts
expression_in (token.Mix ∷ token.Name y ∷ token.Name z ∷ ts) = Mix y z
expression_in _ = Unknown

-- the callees that a `|` stands before, and the arguments behind them
abbrev bars_in : List Token → List (List ℕ)
bars_in (token.Bar ∷ token.Name x ∷ ts) = x ∷ bars_in ts
bars_in _ = []

abbrev arguments_in : List Token → List (List ℕ)
arguments_in (token.Bar ∷ token.Name x ∷ ts) = arguments_in ts
arguments_in (token.Name x ∷ ts) = x ∷ names_in ts
arguments_in _ = []

abbrev call_in : Option (List ℕ) → List Token → StatementValue
call_in target (token.Name callee ∷ ts) = calling target (callee ∷ bars_in ts) (arguments_in ts)
call_in target _ = calling target [] []

abbrev after_target : List ℕ → List Token → StatementValue
after_target x (token.Equals ∷ token.Call ∷ ts) = call_in (Some x) ts
after_target x (token.Equals ∷ ts) = other (Assign x (expression_in ts))
after_target x _ = other Skip

abbrev token_value : List Token → LineValue
token_value (token.Global ∷ ts) = at_global (name_in ts)
token_value (token.Proc ∷ token.Name p ∷ ts) = at_procedure p (names_in ts)
token_value (token.Var ∷ ts) = at_local (name_in ts)
token_value (token.Skip ∷ ts) = at_statement (other Skip)
token_value (token.At ∷ ts) = at_statement (other (At (name_in ts)))
token_value (token.Goto ∷ ts) = at_statement (other (Goto (name_in ts)))
token_value (token.Branch ∷ ts) = at_statement (other (Branch (name_in ts)))
token_value (token.Call ∷ ts) = at_statement (call_in None ts)
token_value (token.Return ∷ ts) = at_statement (other (Return (returned_in ts)))
token_value (token.Name x ∷ ts) = at_statement (after_target x ts)
token_value _ = at_end

names_in-tokens : (names : List (List ℕ)) → names_in (name_tokens names) ≡ names
names_in-tokens [] = refl
names_in-tokens (n ∷ names) = ap (λ ns. n ∷ ns) (names_in-tokens names)

bars_in-tokens : (callees arguments : List (List ℕ)) → bars_in (bar_tokens callees ++ name_tokens arguments) ≡ callees
bars_in-tokens [] [] = refl
bars_in-tokens [] (a ∷ arguments) = refl
bars_in-tokens (c ∷ callees) arguments = ap (λ cs. c ∷ cs) (bars_in-tokens callees arguments)

arguments_in-tokens : (callees arguments : List (List ℕ)) → arguments_in (bar_tokens callees ++ name_tokens arguments) ≡ arguments
arguments_in-tokens [] [] = refl
arguments_in-tokens [] (a ∷ arguments) = ap (λ ns. a ∷ ns) (names_in-tokens arguments)
arguments_in-tokens (c ∷ callees) arguments = arguments_in-tokens callees arguments

call_in-tokens : (target : Option (List ℕ)) (callees arguments : List (List ℕ)) → 1 ≤ length callees → call_in target (callee_tokens callees ++ name_tokens arguments) ≡ calling target callees arguments
call_in-tokens target [] arguments some = absurd (omega arith)
call_in-tokens target (c ∷ callees) arguments some =
    ap (λ cs. calling target (c ∷ cs) (arguments_in (bar_tokens callees ++ name_tokens arguments))) (bars_in-tokens callees arguments)
    ∙ ap (λ ns. calling target (c ∷ callees) ns) (arguments_in-tokens callees arguments)

token_value-line : (l : Line) → IsLine l → token_value (line_tokens l) ≡ line_value l
token_value-line (Global g) is = refl
token_value-line (Begin p parameters) is = ap (at_procedure p) (names_in-tokens parameters.items)
token_value-line (Local x) is = refl
token_value-line End is = refl
token_value-line (Step (Assign x (Number n))) is = refl
token_value-line (Step (Assign x (Copy y))) is = refl
token_value-line (Step (Assign x (Sum y n))) is = refl
token_value-line (Step (Assign x (Difference y n))) is = refl
token_value-line (Step (Assign x Unknown)) is = refl
token_value-line (Step (Assign x (Mix y z))) is = refl
token_value-line (Step Skip) is = refl
token_value-line (Step (At l)) is = refl
token_value-line (Step (Goto l)) is = refl
token_value-line (Step (Branch l)) is = refl
token_value-line (Step (Call None callees arguments)) is = ap at_statement (call_in-tokens None callees.items arguments.items is.1)
token_value-line (Step (Call (Some x) callees arguments)) is = ap at_statement (call_in-tokens (Some x) callees.items arguments.items is.1)
token_value-line (Step (Return None)) is = refl
token_value-line (Step (Return (Some y))) is = refl

same_value : (l m : Line) → IsLine l → IsLine m → line_text l ≡ line_text m → line_value l ≡ line_value m
same_value l m is_l is_m e = sym (token_value-line l is_l) ∙ ap token_value (same_line_tokens l m is_l is_m e) ∙ token_value-line m is_m

-- ---- the program of such lines, the latest first: what stands behind them is gathered already
abbrev program_from : List LineValue → List (List ℕ) → List (List ℕ) → List StatementValue → List ProcedureValue → ProgramValue
program_from [] globals locals statements procedures = record { globals = globals; procedures = procedures }
program_from (at_global g ∷ vs) globals locals statements procedures = program_from vs (g ∷ globals) locals statements procedures
program_from (at_local x ∷ vs) globals locals statements procedures = program_from vs globals (x ∷ locals) statements procedures
program_from (at_end ∷ vs) globals locals statements procedures = program_from vs globals locals statements procedures
program_from (at_statement s ∷ vs) globals locals statements procedures = program_from vs globals locals (s ∷ statements) procedures
program_from (at_procedure p parameters ∷ vs) globals locals statements procedures =
    program_from vs globals [] [] (record { name = p; parameters = parameters; locals = locals; statements = statements } ∷ procedures)

pub reversed : {X : Type 0} (f : X → Line) (x : X) (xs : List X) (rest : List Line) → reverse (map f (x ∷ xs)) ++ rest ≡ reverse (map f xs) ++ (f x ∷ rest)
reversed f x xs rest = ap (λ ls. ls ++ rest) (reverse-append (f x ∷ []) (map f xs)) ∙ append_assoc (reverse (map f xs)) (f x ∷ []) rest

-- lines of one kind
from_kind : {X : Type 0} (f : X → Line) (P : List LineValue → List X → ProgramValue) → ((vs : List LineValue) (x : X) (xs : List X) → P (line_value (f x) ∷ vs) xs ≡ P vs (x ∷ xs)) →
    (xs ys : List X) (rest : List Line) → P (values (reverse (map f xs) ++ rest)) ys ≡ P (values rest) (xs ++ ys)
from_kind f P step [] ys rest = refl
from_kind f P step (x ∷ xs) ys rest =
    ap (λ ls. P (values ls) ys) (reversed f x xs rest)
    ∙ from_kind f P step xs ys (f x ∷ rest)
    ∙ step (values rest) x (xs ++ ys)

from_whole : {X : Type 0} (f : X → Line) (P : List LineValue → List X → ProgramValue) → ((vs : List LineValue) (x : X) (xs : List X) → P (line_value (f x) ∷ vs) xs ≡ P vs (x ∷ xs)) →
    (xs : List X) (rest : List Line) → P (values (reverse (map f xs) ++ rest)) [] ≡ P (values rest) xs
from_whole f P step xs rest = from_kind f P step xs [] rest ∙ ap (P (values rest)) (append-nil xs)

pub open_apart : (p : Procedure) (rest : List Line) → open_lines p ++ rest ≡ reverse (map (λ s. Step s) p.statements.items) ++ (reverse (map (λ x. Local x) p.locals.items) ++ (Begin p.name p.parameters ∷ rest))
open_apart p rest = simp append_assoc

from_open : (p : Procedure) (rest : List Line) (globals : List (List ℕ)) (procedures : List ProcedureValue) →
    program_from (values (open_lines p ++ rest)) globals [] [] procedures ≡ program_from (values rest) globals [] [] (value_of_procedure p ∷ procedures)
from_open p rest globals procedures =
    ap (λ ls. program_from (values ls) globals [] [] procedures) (open_apart p rest)
    ∙ from_whole (λ s. Step s) (λ vs ss. program_from vs globals [] (map value_of_statement ss) procedures) (λ vs s ss. refl) p.statements.items (reverse (map (λ x. Local x) p.locals.items) ++ (Begin p.name p.parameters ∷ rest))
    ∙ from_whole (λ x. Local x) (λ vs xs. program_from vs globals xs (map value_of_statement p.statements.items) procedures) (λ vs x xs. refl) p.locals.items (Begin p.name p.parameters ∷ rest)

from_ended : (ps : List Procedure) (rest : List Line) (globals : List (List ℕ)) (procedures : List ProcedureValue) →
    program_from (values (ended_lines ps ++ rest)) globals [] [] procedures ≡ program_from (values rest) globals [] [] (map value_of_procedure ps ++ procedures)
from_ended [] rest globals procedures = refl
from_ended (p ∷ ps) rest globals procedures =
    ap (λ ls. program_from (values ls) globals [] [] procedures) (append_assoc (ended_lines ps) (End ∷ open_lines p) rest)
    ∙ from_ended ps (End ∷ (open_lines p ++ rest)) globals procedures
    ∙ from_open p rest globals (map value_of_procedure ps ++ procedures)

from_globals : (globals : List (List ℕ)) (procedures : List ProcedureValue) → program_from (values (global_lines globals)) [] [] [] procedures ≡ record { globals = globals; procedures = procedures }
from_globals globals procedures =
    ap (λ ls. program_from (values ls) [] [] [] procedures) (sym (append-nil (global_lines globals)))
    ∙ from_whole (λ g. Global g) (λ vs gs. program_from vs gs [] [] procedures) (λ vs g gs. refl) globals []

program_from-lines : (p : Draft) → program_from (values (draft_lines p)) [] [] [] [] ≡ draft_value p
program_from-lines p =
    from_ended (draft_procedures p) (global_lines (draft_globals p)) [] []
    ∙ ap (λ ps. program_from (values (global_lines (draft_globals p))) [] [] [] ps) (append-nil (map value_of_procedure (draft_procedures p)))
    ∙ from_globals (draft_globals p) (map value_of_procedure (draft_procedures p))

-- ---- the lines of a program are of the grammar
all_joined : (xs ys : List Line) → AllByRecursion IsLine xs → AllByRecursion IsLine ys → AllByRecursion IsLine (xs ++ ys)
all_joined [] ys h k = k
all_joined (x ∷ xs) ys h k = (h.0, all_joined xs ys h.1 k)

all_reversed : {X : Type 0} (f : X → Line) (xs : List X) → AllByRecursion (λ x. IsLine (f x)) xs → AllByRecursion IsLine (reverse (map f xs))
all_reversed f [] h = tt
all_reversed f (x ∷ xs) h = subst (AllByRecursion IsLine) (sym (reverse-append (f x ∷ []) (map f xs))) (all_joined (reverse (map f xs)) (f x ∷ []) (all_reversed f xs h.1) (h.0, tt))

open_are_lines : (p : Procedure) → IsProcedure p → AllByRecursion IsLine (open_lines p)
open_are_lines p h =
    let steps = reverse (map (λ s. Step s) p.statements.items) in
    let locals = reverse (map (λ x. Local x) p.locals.items) in
    all_joined steps (locals ++ Begin p.name p.parameters ∷ []) (all_reversed (λ s. Step s) p.statements.items h.statements)
    (all_joined locals (Begin p.name p.parameters ∷ []) (all_reversed (λ x. Local x) p.locals.items h.locals) ((h.name, h.parameters), tt))

ended_are_lines : (ps : List Procedure) → AllByRecursion IsProcedure ps → AllByRecursion IsLine (ended_lines ps)
ended_are_lines [] h = tt
ended_are_lines (p ∷ ps) h = all_joined (ended_lines ps) (End ∷ open_lines p) (ended_are_lines ps h.1) (tt, open_are_lines p h.0)

program_are_lines : (p : Draft) → IsProgram p → AllByRecursion IsLine (draft_lines p)
program_are_lines p h = all_joined (ended_lines (draft_procedures p)) (global_lines (draft_globals p)) (ended_are_lines (draft_procedures p) h.procedures) (all_reversed (λ g. Global g) (draft_globals p) h.globals)

-- ---- a text has as many lines as it has LF
no_feeds : (bytes : List ℕ) → AllByRecursion (λ b. (b == 10) ≡ false) bytes → count_by (λ b. b == 10) bytes ≡ 0
no_feeds [] h = refl
no_feeds (b ∷ bytes) h = omega (arith, sum_by-cons (λ c. cond (c == 10) 1 0) b bytes, ap {B = ℕ} (λ t. cond t 1 0) h.0, no_feeds bytes h.1)

feeds_are_lines : (ls : List Line) → AllByRecursion IsLine ls → count_by (λ b. b == 10) (lines_text ls) ≡ length ls
feeds_are_lines [] h = refl
feeds_are_lines (l ∷ ls) h = omega (
  arith,
  feeds_are_lines ls h.1,
  no_feeds (line_text l) (line_lacks l h.0),
  sum_by-append (λ c. cond (c == 10) 1 0) (lines_text ls ++ line_text l) (codes "\n"),
  sum_by-append (λ c. cond (c == 10) 1 0) (lines_text ls) (line_text l),
)

-- ---- the law
lines_one : (ls ms : List Line) → AllByRecursion IsLine ls → AllByRecursion IsLine ms → lines_text ls ≡ lines_text ms → values ls ≡ values ms
lines_one ls ms h k e =
    let many : length ls ≡ length ms = sym (feeds_are_lines ls h) ∙ ap (count_by (λ b. b == 10)) e ∙ feeds_are_lines ms k in
    (same_lines line_value same_value ls ms [] [] many h k (ap (λ t. t ++ []) e)).0

pub one_program : (text : List ℕ) (p q : Draft) → Spells text p → Spells text q → draft_value p ≡ draft_value q
one_program text p q a b =
    let same = lines_one (draft_lines p) (draft_lines q) (program_are_lines p a.proper) (program_are_lines q b.proper) (program_text_is p ∙ a.same ∙ sym b.same ∙ sym (program_text_is q)) in
    sym (program_from-lines p) ∙ ap (λ vs. program_from vs [] [] [] []) same ∙ program_from-lines q
