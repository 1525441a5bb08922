-- Lines and their tokens.
use Rattle.std.proofs.Common.{ℕ, zero, suc, ◌<◌, ◌≤◌, ◌≡◌, ◌≢◌, List, [], ◌∷◌, ◌++◌, Option, Some, None, length, get_or, ap, sym, refl, arith, subst}
use Rattle.ide_text.specs.declared.flaw.Flaw.{Flaw}
use Rattle.ide_text.specs.declared.flaw.Flaw.TheVariants.{NoMemory, Faulty}
use Rattle.ide_text.specs.declared.token.Token.{Token}
use Rattle.ide_text.specs.declared.token.Token.TheVariants as token
use Rattle.ide_text.specs.declared.program.Statement.{Statement}
use Rattle.ide_text.specs.declared.program.Statement.TheVariants.{Assign, Skip, At, Goto, Branch, Call, Return}
use Rattle.ide_text.specs.declared.program.Expression.{Expression}
use Rattle.ide_text.specs.declared.program.Expression.TheVariants.{Number, Copy, Sum, Difference, Unknown, Mix}
use Rattle.ide_text.specs.Flaw.{IsNoLine}
use Rattle.ide_text.specs.Token.{HasCallee, bar_tokens, callee_tokens, expression_tokens, target_tokens, name_tokens, statement_tokens}

-- a flaw that shows a fact shows what follows from it
pub no_line_weaker : (P Q : Type 0) → (P → Q) → (flaw : Flaw) → IsNoLine P flaw → IsNoLine Q flaw
no_line_weaker P Q f NoMemory h = tt
no_line_weaker P Q f (Faulty fault) h = (h.0, f h.1)

name_in : (t : Token) (names : List (List ℕ)) (i : ℕ) → i < length (name_tokens names) → t ≡ get_or (name_tokens names) i t → (n : List ℕ) × (t ≡ token.Name n)
name_in t [] i within is = absurd (omega arith)
name_in t (n ∷ names) zero within is = (n, is)
name_in t (n ∷ names) (suc i) within is = name_in t names i (omega arith) is

-- each of the tokens that names are is a name
pub name_at : (names : List (List ℕ)) (tokens : List Token) (i : ℕ) (t : Token) → name_tokens names ≡ tokens → i < length tokens → t ≡ get_or tokens i t → (n : List ℕ) × (t ≡ token.Name n)
name_at names tokens i t e within is = name_in t names i (subst (λ (ts : List Token). i < length ts) (sym e) within) (subst (λ (ts : List Token). t ≡ get_or ts i t) (sym e) is)

-- the tokens of what an assignment gives begin with no `call`
pub no_call : (e : Expression) (rest : List Token) → expression_tokens e ≢ token.Call ∷ rest
no_call (Number n) rest same = cc
no_call (Copy y) rest same = cc
no_call (Sum y n) rest same = cc
no_call (Difference y n) rest same = cc
no_call Unknown rest same = cc
no_call (Mix y z) rest same = cc

-- callees, and arguments behind them
abbrev pub AreCalled : List Token → Type 0
AreCalled called = (callees : List (List ℕ)) × (arguments : List (List ℕ)) × (1 ≤ length callees) × (callee_tokens callees ++ name_tokens arguments ≡ called)

-- callees that were read so far begin all of them
more_bars : (callees read arguments : List (List ℕ)) (rest : List Token) → bar_tokens callees ++ name_tokens arguments ≡ bar_tokens read ++ rest →
    (more : List (List ℕ)) × (bar_tokens more ++ name_tokens arguments ≡ rest)
more_bars callees [] arguments rest e = (callees, e)
more_bars [] (r ∷ read) [] rest e = absurd (cc)
more_bars [] (r ∷ read) (a ∷ arguments) rest e = absurd (cc)
more_bars (c ∷ callees) (r ∷ read) arguments rest e = more_bars callees read arguments rest (cc)

pub more_callees : (callees read arguments : List (List ℕ)) (rest : List Token) → 1 ≤ length callees → 1 ≤ length read →
    callee_tokens callees ++ name_tokens arguments ≡ callee_tokens read ++ rest → (more : List (List ℕ)) × (bar_tokens more ++ name_tokens arguments ≡ rest)
more_callees [] read arguments rest some any e = absurd (omega arith)
more_callees (c ∷ callees) [] arguments rest some any e = absurd (omega arith)
more_callees (c ∷ callees) (r ∷ read) arguments rest some any e = more_bars callees read arguments rest (cc)

-- behind a `|` stands a callee
pub bar_names : (more arguments : List (List ℕ)) (after : List Token) → bar_tokens more ++ name_tokens arguments ≡ token.Bar ∷ after → (n : List ℕ) × (rest : List Token) × (after ≡ token.Name n ∷ rest)
bar_names [] [] after e = absurd (cc)
bar_names [] (a ∷ arguments) after e = absurd (cc)
bar_names (m ∷ more) arguments after e = (m, bar_tokens more ++ name_tokens arguments, cc)

-- where no `|` stands, no callee is left
pub no_bar : (more arguments : List (List ℕ)) (rest : List Token) → bar_tokens more ++ name_tokens arguments ≡ rest → ((after : List Token) → rest ≢ token.Bar ∷ after) → name_tokens arguments ≡ rest
no_bar [] arguments rest e none = e
no_bar (m ∷ more) arguments rest e none = absurd (none (token.Name m ∷ (bar_tokens more ++ name_tokens arguments)) (sym e))

-- a callee stands in front
pub first_callee : (callees arguments : List (List ℕ)) (tokens : List Token) → 1 ≤ length callees → callee_tokens callees ++ name_tokens arguments ≡ tokens → (n : List ℕ) × (rest : List Token) × (tokens ≡ token.Name n ∷ rest)
first_callee [] arguments tokens some e = absurd (omega arith)
first_callee (c ∷ callees) arguments tokens some e = (c, bar_tokens callees ++ name_tokens arguments, sym e)

-- a callee more
bars_more : (callees : List (List ℕ)) (c : List ℕ) (rest : List Token) → bar_tokens (callees ++ c ∷ []) ++ rest ≡ bar_tokens callees ++ token.Bar ∷ token.Name c ∷ rest
bars_more [] c rest = refl
bars_more (d ∷ callees) c rest = ap (λ ts. token.Bar ∷ token.Name d ∷ ts) (bars_more callees c rest)

pub callees_more : (callees : List (List ℕ)) (c : List ℕ) (rest : List Token) → 1 ≤ length callees → callee_tokens (callees ++ c ∷ []) ++ rest ≡ callee_tokens callees ++ token.Bar ∷ token.Name c ∷ rest
callees_more [] c rest some = absurd (omega arith)
callees_more (d ∷ callees) c rest some = ap (λ ts. token.Name d ∷ ts) (bars_more callees c rest)

-- what stands after the word `call` of a call
pub after_call : (target : Option (List ℕ)) (called : List Token) (s : Statement) → HasCallee s → statement_tokens s ≡ target_tokens target ++ token.Call ∷ called → AreCalled called
after_call None called (Assign x e) one same = absurd (cc)
after_call (Some t) called (Assign x e) one same = absurd (no_call e called (cc))
after_call None called (Call None callees arguments) one same = (callees.items, arguments.items, one, cc)
after_call (Some t) called (Call None callees arguments) one same = absurd (cc)
after_call None called (Call (Some x) callees arguments) one same = absurd (cc)
after_call (Some t) called (Call (Some x) callees arguments) one same = (callees.items, arguments.items, one, cc)
after_call None called Skip one same = absurd (cc)
after_call (Some t) called Skip one same = absurd (cc)
after_call None called (At l) one same = absurd (cc)
after_call (Some t) called (At l) one same = absurd (cc)
after_call None called (Goto l) one same = absurd (cc)
after_call (Some t) called (Goto l) one same = absurd (cc)
after_call None called (Branch l) one same = absurd (cc)
after_call (Some t) called (Branch l) one same = absurd (cc)
after_call None called (Return y) one same = absurd (cc)
after_call (Some t) called (Return y) one same = absurd (cc)

-- what stands after the `=` of an assignment that is no call
pub after_equals : (t : List ℕ) (value : List Token) (s : Statement) → HasCallee s → ((called : List Token) → value ≢ token.Call ∷ called) →
    statement_tokens s ≡ token.Name t ∷ token.Equals ∷ value → (e : Expression) × (expression_tokens e ≡ value)
after_equals t value (Assign x e) one no_call same = (e, cc)
after_equals t value (Call None callees arguments) one no_call same = absurd (cc)
after_equals t value (Call (Some x) callees arguments) one no_call same = absurd (no_call (callee_tokens callees.items ++ name_tokens arguments.items) (cc))
after_equals t value Skip one no_call same = absurd (cc)
after_equals t value (At l) one no_call same = absurd (cc)
after_equals t value (Goto l) one no_call same = absurd (cc)
after_equals t value (Branch l) one no_call same = absurd (cc)
after_equals t value (Return y) one no_call same = absurd (cc)
