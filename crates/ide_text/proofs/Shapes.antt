-- What the place of a line and the limits depend on: its shape, which its text tells.
use Rattle.std.proofs.Common.{ℕ, pred, ◌+◌, ◌≤◌, ◌≡◌, max, cond, List, [], ◌∷◌, Some, None, length, map, vec_len, sum_by, count_by, ap, sym, refl, ◌∙◌, subst, arith}
use Rattle.std.specs.List.{AllByRecursion}
use Rattle.std.proofs.lemmas.List.{length-map}
use Rattle.std.proofs.lemmas.List.Sums.{sum_by-cons}
use Rattle.ide_text.specs.declared.token.Token.{Token}
use Rattle.ide_text.specs.declared.token.Token.TheVariants as token
use Rattle.ide_text.specs.declared.line.Line.{Line}
use Rattle.ide_text.specs.declared.line.Line.TheVariants.{Global, Procedure as Begin, Local, End, Statement as Step}
use Rattle.ide_text.specs.declared.program.Statement.TheVariants.{Assign, Skip, At, Goto, Branch, Call, Return}
use Rattle.ide_text.specs.declared.program.Expression.TheVariants.{Number, Copy, Sum, Difference, Unknown, Mix}
use Rattle.ide_text.specs.FirstFault.{Fits, MayEnd, MayFollow, StandsAtGlobals, StandsAtVariables, StandsInside, StandsOutside, is_global, begins_procedure, last_variables, most_variables, nodes_on, parameters_on}
use Rattle.ide_text.specs.Grammar.{IsLine}
use Rattle.ide_text.specs.Text.{line_text}
use Rattle.ide_text.specs.Token.{line_tokens}
use Rattle.ide_text.proofs.Words.{Tokenizes-line, Tokenizes-one}

-- the kind of a line, with its parameters or its nodes
pub data Shape : Type 0 where
  at_global at_local at_end : Shape
  at_procedure at_statement : ℕ → Shape

abbrev pub shape : Line → Shape
shape (Global g) = at_global
shape (Begin p parameters) = at_procedure (vec_len parameters)
shape (Local x) = at_local
shape End = at_end
shape (Step s) = at_statement (nodes_on (Step s))

-- the shape of a line that begins with a name
abbrev name_shape : List Token → Shape
name_shape (token.Equals ∷ token.Call ∷ ts) = at_statement 2
name_shape _ = at_statement 1

abbrev token_shape : List Token → Shape
token_shape (token.Global ∷ ts) = at_global
token_shape (token.Proc ∷ ts) = at_procedure (pred (length ts))
token_shape (token.Var ∷ ts) = at_local
token_shape (token.End ∷ ts) = at_end
token_shape (token.Call ∷ ts) = at_statement 2
token_shape (token.Name x ∷ ts) = name_shape ts
token_shape _ = at_statement 1

token_shape-line : (l : Line) → token_shape (line_tokens l) ≡ shape l
token_shape-line (Global g) = refl
token_shape-line (Begin p parameters) = ap at_procedure (omega (arith, length-map parameters.items (λ name. token.Name name), parameters.ok.0))
token_shape-line (Local x) = refl
token_shape-line End = refl
token_shape-line (Step (Assign x (Number n))) = refl
token_shape-line (Step (Assign x (Copy y))) = refl
token_shape-line (Step (Assign x (Sum y n))) = refl
token_shape-line (Step (Assign x (Difference y n))) = refl
token_shape-line (Step (Assign x Unknown)) = refl
token_shape-line (Step (Assign x (Mix y z))) = refl
token_shape-line (Step Skip) = refl
token_shape-line (Step (At l)) = refl
token_shape-line (Step (Goto l)) = refl
token_shape-line (Step (Branch l)) = refl
token_shape-line (Step (Call None callees arguments)) = refl
token_shape-line (Step (Call (Some x) callees arguments)) = refl
token_shape-line (Step (Return y)) = refl

-- lines of the grammar with one text have one list of tokens, and one shape
pub same_line_tokens : (l m : Line) → IsLine l → IsLine m → line_text l ≡ line_text m → line_tokens l ≡ line_tokens m
same_line_tokens l m is_l is_m e = Tokenizes-one (line_text m) _ _ (Tokenizes-line l (line_text m) is_l e) (Tokenizes-line m (line_text m) is_m refl)

pub same_shape : (l m : Line) → IsLine l → IsLine m → line_text l ≡ line_text m → shape l ≡ shape m
same_shape l m is_l is_m e = sym (token_shape-line l) ∙ ap token_shape (same_line_tokens l m is_l is_m e) ∙ token_shape-line m

abbrev pub shapes : List Line → List Shape
shapes ls = map shape ls

-- ---- places
data Place : Type 0 where
  head_none head_global head_local head_end head_procedure head_statement : Place

abbrev place_of : List Shape → Place
place_of [] = head_none
place_of (at_global ∷ ss) = head_global
place_of (at_local ∷ ss) = head_local
place_of (at_end ∷ ss) = head_end
place_of (at_procedure n ∷ ss) = head_procedure
place_of (at_statement n ∷ ss) = head_statement

abbrev Globals : Place → Type 0
Globals head_none = Unit {0}
Globals head_global = Unit {0}
Globals _ = ⊥

abbrev Outside : Place → Type 0
Outside head_none = Unit {0}
Outside head_global = Unit {0}
Outside head_end = Unit {0}
Outside _ = ⊥

abbrev Variables : Place → Type 0
Variables head_procedure = Unit {0}
Variables head_local = Unit {0}
Variables _ = ⊥

abbrev Inside : Place → Type 0
Inside head_procedure = Unit {0}
Inside head_local = Unit {0}
Inside head_statement = Unit {0}
Inside _ = ⊥

abbrev Ended : Place → Type 0
Ended head_end = Unit {0}
Ended _ = ⊥

abbrev Agrees : (List Line → Type 0) → (Place → Type 0) → Type 0
Agrees P Q = (ls : List Line) → (P ls → Q (place_of (shapes ls))) × (Q (place_of (shapes ls)) → P ls)

agree_globals : Agrees StandsAtGlobals Globals
agree_globals [] = ((λ h. h), (λ h. h))
agree_globals (Global g ∷ ls) = ((λ h. h), (λ h. h))
agree_globals (Begin p ps ∷ ls) = ((λ h. h), (λ h. h))
agree_globals (Local x ∷ ls) = ((λ h. h), (λ h. h))
agree_globals (End ∷ ls) = ((λ h. h), (λ h. h))
agree_globals (Step s ∷ ls) = ((λ h. h), (λ h. h))

agree_outside : Agrees StandsOutside Outside
agree_outside [] = ((λ h. h), (λ h. h))
agree_outside (Global g ∷ ls) = ((λ h. h), (λ h. h))
agree_outside (Begin p ps ∷ ls) = ((λ h. h), (λ h. h))
agree_outside (Local x ∷ ls) = ((λ h. h), (λ h. h))
agree_outside (End ∷ ls) = ((λ h. h), (λ h. h))
agree_outside (Step s ∷ ls) = ((λ h. h), (λ h. h))

agree_variables : Agrees StandsAtVariables Variables
agree_variables [] = ((λ h. h), (λ h. h))
agree_variables (Global g ∷ ls) = ((λ h. h), (λ h. h))
agree_variables (Begin p ps ∷ ls) = ((λ h. h), (λ h. h))
agree_variables (Local x ∷ ls) = ((λ h. h), (λ h. h))
agree_variables (End ∷ ls) = ((λ h. h), (λ h. h))
agree_variables (Step s ∷ ls) = ((λ h. h), (λ h. h))

agree_inside : Agrees StandsInside Inside
agree_inside [] = ((λ h. h), (λ h. h))
agree_inside (Global g ∷ ls) = ((λ h. h), (λ h. h))
agree_inside (Begin p ps ∷ ls) = ((λ h. h), (λ h. h))
agree_inside (Local x ∷ ls) = ((λ h. h), (λ h. h))
agree_inside (End ∷ ls) = ((λ h. h), (λ h. h))
agree_inside (Step s ∷ ls) = ((λ h. h), (λ h. h))

agree_ended : Agrees MayEnd Ended
agree_ended [] = ((λ h. h), (λ h. h))
agree_ended (Global g ∷ ls) = ((λ h. h), (λ h. h))
agree_ended (Begin p ps ∷ ls) = ((λ h. h), (λ h. h))
agree_ended (Local x ∷ ls) = ((λ h. h), (λ h. h))
agree_ended (End ∷ ls) = ((λ h. h), (λ h. h))
agree_ended (Step s ∷ ls) = ((λ h. h), (λ h. h))

same_place : (P : List Line → Type 0) (Q : Place → Type 0) → Agrees P Q → (ls ms : List Line) → shapes ls ≡ shapes ms → P ls → P ms
same_place P Q agree ls ms e h = (agree ms).1 (subst (λ ss. Q (place_of ss)) e ((agree ls).0 h))

pub MayEnd-same : (ls ms : List Line) → shapes ls ≡ shapes ms → MayEnd ls → MayEnd ms
MayEnd-same = same_place MayEnd Ended agree_ended

abbrev Follows : Place → Shape → Type 0
Follows place at_global = Globals place
Follows place (at_procedure n) = Outside place
Follows place at_local = Variables place
Follows place at_end = Inside place
Follows place (at_statement n) = Inside place

follows : (ls : List Line) (l : Line) → (MayFollow ls l → Follows (place_of (shapes ls)) (shape l)) × (Follows (place_of (shapes ls)) (shape l) → MayFollow ls l)
follows ls (Global g) = agree_globals ls
follows ls (Begin p ps) = agree_outside ls
follows ls (Local x) = agree_variables ls
follows ls End = agree_inside ls
follows ls (Step s) = agree_inside ls

pub MayFollow-same : (ls ms : List Line) (l m : Line) → shapes ls ≡ shapes ms → shape l ≡ shape m → MayFollow ls l → MayFollow ms m
MayFollow-same ls ms l m e f h = (follows ms m).1 (subst (Follows (place_of (shapes ms))) f (subst (λ ss. Follows (place_of ss) (shape l)) e ((follows ls l).0 h)))

-- ---- limits
abbrev procedures_in : List Shape → ℕ
procedures_in [] = 0
procedures_in (at_procedure n ∷ ss) = procedures_in ss + 1
procedures_in (_ ∷ ss) = procedures_in ss

abbrev globals_in : List Shape → ℕ
globals_in [] = 0
globals_in (at_global ∷ ss) = globals_in ss + 1
globals_in (_ ∷ ss) = globals_in ss

abbrev nodes_in : List Shape → ℕ
nodes_in [] = 0
nodes_in (at_procedure n ∷ ss) = nodes_in ss + 2
nodes_in (at_statement n ∷ ss) = nodes_in ss + n
nodes_in (_ ∷ ss) = nodes_in ss

abbrev last_in : List Shape → ℕ
last_in [] = 0
last_in (at_procedure n ∷ ss) = n
last_in (at_local ∷ ss) = last_in ss + 1
last_in (_ ∷ ss) = last_in ss

abbrev most_in : List Shape → ℕ
most_in [] = 0
most_in (s ∷ ss) = max (most_in ss) (last_in (s ∷ ss))

abbrev parameters_at : Shape → ℕ
parameters_at (at_procedure n) = n
parameters_at _ = 0

procedures_are : (ls : List Line) → count_by begins_procedure ls ≡ procedures_in (shapes ls)
procedures_are [] = refl
procedures_are (Global g ∷ ls) = sum_by-cons (λ l. cond (begins_procedure l) 1 0) (Global g) ls ∙ omega (arith, procedures_are ls)
procedures_are (Begin p ps ∷ ls) = sum_by-cons (λ l. cond (begins_procedure l) 1 0) (Begin p ps) ls ∙ omega (arith, procedures_are ls)
procedures_are (Local x ∷ ls) = sum_by-cons (λ l. cond (begins_procedure l) 1 0) (Local x) ls ∙ omega (arith, procedures_are ls)
procedures_are (End ∷ ls) = sum_by-cons (λ l. cond (begins_procedure l) 1 0) End ls ∙ omega (arith, procedures_are ls)
procedures_are (Step s ∷ ls) = sum_by-cons (λ l. cond (begins_procedure l) 1 0) (Step s) ls ∙ omega (arith, procedures_are ls)

globals_are : (ls : List Line) → count_by is_global ls ≡ globals_in (shapes ls)
globals_are [] = refl
globals_are (Global g ∷ ls) = sum_by-cons (λ l. cond (is_global l) 1 0) (Global g) ls ∙ omega (arith, globals_are ls)
globals_are (Begin p ps ∷ ls) = sum_by-cons (λ l. cond (is_global l) 1 0) (Begin p ps) ls ∙ omega (arith, globals_are ls)
globals_are (Local x ∷ ls) = sum_by-cons (λ l. cond (is_global l) 1 0) (Local x) ls ∙ omega (arith, globals_are ls)
globals_are (End ∷ ls) = sum_by-cons (λ l. cond (is_global l) 1 0) End ls ∙ omega (arith, globals_are ls)
globals_are (Step s ∷ ls) = sum_by-cons (λ l. cond (is_global l) 1 0) (Step s) ls ∙ omega (arith, globals_are ls)

nodes_are : (ls : List Line) → sum_by nodes_on ls ≡ nodes_in (shapes ls)
nodes_are [] = refl
nodes_are (Global g ∷ ls) = sum_by-cons nodes_on (Global g) ls ∙ omega (arith, nodes_are ls)
nodes_are (Begin p ps ∷ ls) = sum_by-cons nodes_on (Begin p ps) ls ∙ omega (arith, nodes_are ls)
nodes_are (Local x ∷ ls) = sum_by-cons nodes_on (Local x) ls ∙ omega (arith, nodes_are ls)
nodes_are (End ∷ ls) = sum_by-cons nodes_on End ls ∙ omega (arith, nodes_are ls)
nodes_are (Step s ∷ ls) = sum_by-cons nodes_on (Step s) ls ∙ omega (arith, nodes_are ls)

last_is : (ls : List Line) → last_variables ls ≡ last_in (shapes ls)
last_is [] = refl
last_is (Global g ∷ ls) = last_is ls
last_is (Begin p ps ∷ ls) = refl
last_is (Local x ∷ ls) = ap (λ n. n + 1) (last_is ls)
last_is (End ∷ ls) = last_is ls
last_is (Step s ∷ ls) = last_is ls

most_is : (ls : List Line) → most_variables ls ≡ most_in (shapes ls)
most_is [] = refl
most_is (l ∷ ls) = ap (λ n. max n (last_variables (l ∷ ls))) (most_is ls) ∙ ap (λ n. max (most_in (shapes ls)) n) (last_is (l ∷ ls))

parameters_agree : (ls : List Line) → (AllByRecursion (λ l. parameters_on l ≤ 16) ls → AllByRecursion (λ s. parameters_at s ≤ 16) (shapes ls)) × (AllByRecursion (λ s. parameters_at s ≤ 16) (shapes ls) → AllByRecursion (λ l. parameters_on l ≤ 16) ls)
parameters_agree [] = ((λ h. h), (λ h. h))
parameters_agree (Global g ∷ ls) = let rest = parameters_agree ls in ((λ h. (h.0, rest.0 h.1)), (λ h. (h.0, rest.1 h.1)))
parameters_agree (Begin p ps ∷ ls) = let rest = parameters_agree ls in ((λ h. (h.0, rest.0 h.1)), (λ h. (h.0, rest.1 h.1)))
parameters_agree (Local x ∷ ls) = let rest = parameters_agree ls in ((λ h. (h.0, rest.0 h.1)), (λ h. (h.0, rest.1 h.1)))
parameters_agree (End ∷ ls) = let rest = parameters_agree ls in ((λ h. (h.0, rest.0 h.1)), (λ h. (h.0, rest.1 h.1)))
parameters_agree (Step s ∷ ls) = let rest = parameters_agree ls in ((λ h. (h.0, rest.0 h.1)), (λ h. (h.0, rest.1 h.1)))

pub Fits-same : (ls ms : List Line) → shapes ls ≡ shapes ms → Fits ls → Fits ms
Fits-same ls ms e fits = record {
  procedures = omega (arith, procedures_are ls, procedures_are ms, ap procedures_in e, fits.procedures);
  parameters = (parameters_agree ms).1 (subst (AllByRecursion (λ s. parameters_at s ≤ 16)) e ((parameters_agree ls).0 fits.parameters));
  nodes = omega (arith, nodes_are ls, nodes_are ms, ap nodes_in e, fits.nodes);
  facts = omega (arith, globals_are ls, globals_are ms, ap globals_in e, most_is ls, most_is ms, ap most_in e, fits.facts);
}
