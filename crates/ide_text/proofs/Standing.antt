-- Where the lines that a reader has taken stand, and how they are counted.
use Rattle.std.proofs.Common.{ℕ, ◌+◌, ◌≤◌, ◌≡◌, ◌≢◌, ◌⊎◌, max, true, false, cond, is_some, IfSome, option_to_list, List, [], ◌∷◌, ◌++◌, Option, Some, None, length, map, reverse, vec_len, sum_by, count_by, inl, inr, ap, sym, refl, ◌∙◌, subst, arith, append_assoc}
use Rattle.std.proofs.lemmas.List.{append-nil, reverse-append, map_push}
use Rattle.std.proofs.lemmas.Bool.{false≢true}
use Rattle.std.proofs.lemmas.List.Sums.{sum_by-cons}
use Rattle.ide_text.specs.declared.line.Line.{Line}
use Rattle.ide_text.specs.declared.line.Line.TheVariants.{Global, Procedure as Begin, Local, End, Statement as Step}
use Rattle.ide_text.specs.declared.program.Procedure.{Procedure}
use Rattle.ide_text.specs.declared.program.Statement.{Statement}
use Rattle.ide_text.specs.FirstFault.{Fits, MayEnd, StandsAtGlobals, StandsAtVariables, StandsInside, StandsOutside, is_global, begins_procedure, last_variables, most_variables, nodes_on}
use Rattle.ide_text.specs.declared.reader.Reader.{Reader}
use Rattle.ide_text.specs.Lines.{open_lines, ended_lines, global_lines, lines_in}
use Rattle.ide_text.specs.Reader.{IsCounted, taken_lines}

-- ---- growth
pub lines_push : {X : Type 0} (f : X → Line) (xs : List X) (x : X) → reverse (map f (xs ++ x ∷ [])) ≡ f x ∷ reverse (map f xs)
lines_push f xs x = ap reverse (map_push f xs x) ∙ reverse-append (map f xs) (f x ∷ [])

pub ended_push : (ps : List Procedure) (p : Procedure) → ended_lines (ps ++ p ∷ []) ≡ End ∷ (open_lines p ++ ended_lines ps)
ended_push [] p = ap (λ ls. End ∷ ls) (sym (append-nil (open_lines p)))
ended_push (q ∷ ps) p =
    ap (λ ls. ls ++ End ∷ open_lines q) (ended_push ps p)
    ∙ ap (λ ls. End ∷ ls) (append_assoc (open_lines p) (ended_lines ps) (End ∷ open_lines q))

-- ---- the latest line
latest : {X : Type 0} (f : X → Line) (xs : List X) → (xs ≡ []) ⊎ ((x : X) × (ls : List Line) × (reverse (map f xs) ≡ f x ∷ ls))
latest f [] = inl refl
latest f (x ∷ xs) =
    let reversed : reverse (f x ∷ map f xs) ≡ reverse (map f xs) ++ f x ∷ [] = reverse-append (f x ∷ []) (map f xs) in
    elim (latest f xs) [
      | inl e ↦ inr (x, [], reversed ∙ ap (λ ys. reverse (map f ys) ++ f x ∷ []) e)
      | inr w ↦ inr (w.0, w.1 ++ f x ∷ [], reversed ∙ ap (λ ls. ls ++ f x ∷ []) w.2)
    ]

ended_latest : (p : Procedure) (ps : List Procedure) (rest : List Line) → (ls : List Line) × (ended_lines (p ∷ ps) ++ rest ≡ End ∷ ls)
ended_latest p [] rest = (open_lines p ++ rest, refl)
ended_latest p (q ∷ ps) rest =
    let later = ended_latest q ps ((End ∷ open_lines p) ++ rest) in
    (later.0, append_assoc (ended_lines (q ∷ ps)) (End ∷ open_lines p) rest ∙ later.1)

-- ---- where they stand
pub globals_stand : (gs : List (List ℕ)) → StandsAtGlobals (lines_in gs [] None) × StandsOutside (lines_in gs [] None) × ¬ (StandsInside (lines_in gs [] None)) × ¬ (StandsAtVariables (lines_in gs [] None)) × ¬ (MayEnd (lines_in gs [] None))
globals_stand gs = elim (latest (λ g. Global g) gs) [
  | inl e ↦ let lines : global_lines gs ≡ [] = ap global_lines e in
      (subst StandsAtGlobals (sym lines) tt, subst StandsOutside (sym lines) tt, (λ h. subst StandsInside lines h), (λ h. subst StandsAtVariables lines h), (λ h. subst MayEnd lines h))
  | inr w ↦ let lines : global_lines gs ≡ Global w.0 ∷ w.1 = w.2 in
      (subst StandsAtGlobals (sym lines) tt, subst StandsOutside (sym lines) tt, (λ h. subst StandsInside lines h), (λ h. subst StandsAtVariables lines h), (λ h. subst MayEnd lines h))
]

pub ended_stand : (gs : List (List ℕ)) (p : Procedure) (ps : List Procedure) → ¬ (StandsAtGlobals (lines_in gs (p ∷ ps) None)) × StandsOutside (lines_in gs (p ∷ ps) None) × ¬ (StandsInside (lines_in gs (p ∷ ps) None)) × ¬ (StandsAtVariables (lines_in gs (p ∷ ps) None)) × MayEnd (lines_in gs (p ∷ ps) None)
ended_stand gs p ps =
    let w = ended_latest p ps (global_lines gs) in
    ((λ h. subst StandsAtGlobals w.1 h), subst StandsOutside (sym w.1) tt, (λ h. subst StandsInside w.1 h), (λ h. subst StandsAtVariables w.1 h), subst MayEnd (sym w.1) tt)

-- the latest line of a procedure whose `end` is still to come
data Latest (p : Procedure) (lines : List Line) : Type 0 where
  stated : (s : Statement) (ls : List Line) → length p.statements.items ≢ 0 → lines ≡ Step s ∷ ls → Latest p lines
  declared : (x : List ℕ) (ls : List Line) → length p.statements.items ≡ 0 → lines ≡ Local x ∷ ls → Latest p lines
  begun : (ls : List Line) → length p.statements.items ≡ 0 → lines ≡ Begin p.name p.parameters ∷ ls → Latest p lines

some_length : {X : Type 0} (f : X → Line) (xs : List X) (l : Line) (ls : List Line) → reverse (map f xs) ≡ l ∷ ls → length xs ≢ 0
some_length f [] l ls e none = cc
some_length f (x ∷ xs) l ls e none = omega arith

latest_open : (p : Procedure) (rest : List Line) → Latest p (open_lines p ++ rest)
latest_open p rest = elim (latest (λ s. Step s) p.statements.items) [
  | inl no_statement ↦
      let lines : open_lines p ≡ reverse (map (λ x. Local x) p.locals.items) ++ Begin p.name p.parameters ∷ [] = ap (λ ss. reverse (map (λ s. Step s) ss) ++ (reverse (map (λ x. Local x) p.locals.items) ++ Begin p.name p.parameters ∷ [])) no_statement in
      elim (latest (λ x. Local x) p.locals.items) [
        | inl no_local ↦ begun rest (ap length no_statement)
            (ap (λ ls. ls ++ rest) (lines ∙ ap (λ xs. reverse (map (λ x. Local x) xs) ++ Begin p.name p.parameters ∷ []) no_local))
        | inr w ↦ declared w.0 ((w.1 ++ Begin p.name p.parameters ∷ []) ++ rest) (ap length no_statement)
            (ap (λ ls. ls ++ rest) (lines ∙ ap (λ ls. ls ++ Begin p.name p.parameters ∷ []) w.2))
      ]
  | inr w ↦ stated w.0 ((w.1 ++ (reverse (map (λ x. Local x) p.locals.items) ++ Begin p.name p.parameters ∷ [])) ++ rest)
      (some_length (λ s. Step s) p.statements.items _ _ w.2)
      (ap (λ ls. (ls ++ (reverse (map (λ x. Local x) p.locals.items) ++ Begin p.name p.parameters ∷ [])) ++ rest) w.2)
]

-- what stands by the latest line of an open procedure
open_kinds : (p : Procedure) (ls : List Line) → Latest p ls → ¬ (StandsAtGlobals ls) × ¬ (StandsOutside ls) × StandsInside ls × ¬ (MayEnd ls)
open_kinds p ls (stated s before some e) = ((λ h. subst StandsAtGlobals e h), (λ h. subst StandsOutside e h), subst StandsInside (sym e) tt, (λ h. subst MayEnd e h))
open_kinds p ls (declared x before none e) = ((λ h. subst StandsAtGlobals e h), (λ h. subst StandsOutside e h), subst StandsInside (sym e) tt, (λ h. subst MayEnd e h))
open_kinds p ls (begun before none e) = ((λ h. subst StandsAtGlobals e h), (λ h. subst StandsOutside e h), subst StandsInside (sym e) tt, (λ h. subst MayEnd e h))

variable_kinds : (p : Procedure) (ls : List Line) → Latest p ls → (length p.statements.items ≡ 0 → StandsAtVariables ls) × (length p.statements.items ≢ 0 → ¬ (StandsAtVariables ls))
variable_kinds p ls (stated s before some e) = ((λ none. absurd (some none)), (λ _ h. subst StandsAtVariables e h))
variable_kinds p ls (declared x before none e) = ((λ _. subst StandsAtVariables (sym e) tt), (λ some. absurd (some none)))
variable_kinds p ls (begun before none e) = ((λ _. subst StandsAtVariables (sym e) tt), (λ some. absurd (some none)))

open_stand : (gs : List (List ℕ)) (ps : List Procedure) (p : Procedure) → Latest p (lines_in gs ps (Some p))
open_stand gs ps p = latest_open p (ended_lines ps ++ global_lines gs)

-- ---- the same, of a reader's parts
pub no_end_open : (gs : List (List ℕ)) (ps : List Procedure) (o : Option Procedure) → is_some o ≡ true → ¬ (MayEnd (lines_in gs ps o))
no_end_open gs ps None e = absurd (false≢true e)
no_end_open gs ps (Some p) e = (open_kinds p _ (open_stand gs ps p)).3

pub no_end_empty : (gs : List (List ℕ)) (ps : List Procedure) (o : Option Procedure) → is_some o ≡ false → length ps ≡ 0 → ¬ (MayEnd (lines_in gs ps o))
no_end_empty gs [] None e none = (globals_stand gs).4
no_end_empty gs (p ∷ ps) None e none = absurd (omega arith)
no_end_empty gs ps (Some p) e none = absurd (false≢true (sym e))

pub end_ended : (gs : List (List ℕ)) (ps : List Procedure) (o : Option Procedure) → is_some o ≡ false → length ps ≢ 0 → MayEnd (lines_in gs ps o)
end_ended gs [] None e some = absurd (some refl)
end_ended gs (p ∷ ps) None e some = (ended_stand gs p ps).4
end_ended gs ps (Some p) e some = absurd (false≢true (sym e))

pub no_global_open : (gs : List (List ℕ)) (ps : List Procedure) (o : Option Procedure) → is_some o ≡ true → ¬ (StandsAtGlobals (lines_in gs ps o))
no_global_open gs ps None e = absurd (false≢true e)
no_global_open gs ps (Some p) e = (open_kinds p _ (open_stand gs ps p)).0

pub no_global_ended : (gs : List (List ℕ)) (ps : List Procedure) (o : Option Procedure) → is_some o ≡ false → length ps ≢ 0 → ¬ (StandsAtGlobals (lines_in gs ps o))
no_global_ended gs [] None e some = absurd (some refl)
no_global_ended gs (p ∷ ps) None e some = (ended_stand gs p ps).0
no_global_ended gs ps (Some p) e some = absurd (false≢true (sym e))

pub no_begin_open : (gs : List (List ℕ)) (ps : List Procedure) (o : Option Procedure) → is_some o ≡ true → ¬ (StandsOutside (lines_in gs ps o))
no_begin_open gs ps None e = absurd (false≢true e)
no_begin_open gs ps (Some p) e = (open_kinds p _ (open_stand gs ps p)).1

pub begin_closed : (gs : List (List ℕ)) (ps : List Procedure) (o : Option Procedure) → is_some o ≡ false → StandsOutside (lines_in gs ps o)
begin_closed gs [] None e = (globals_stand gs).1
begin_closed gs (p ∷ ps) None e = (ended_stand gs p ps).1
begin_closed gs ps (Some p) e = absurd (false≢true (sym e))

closed_inside : (gs : List (List ℕ)) (ps : List Procedure) → ¬ (StandsInside (lines_in gs ps None))
closed_inside gs [] = (globals_stand gs).2
closed_inside gs (p ∷ ps) = (ended_stand gs p ps).2

closed_variables : (gs : List (List ℕ)) (ps : List Procedure) → ¬ (StandsAtVariables (lines_in gs ps None))
closed_variables gs [] = (globals_stand gs).3
closed_variables gs (p ∷ ps) = (ended_stand gs p ps).3

pub no_inside_closed : (gs : List (List ℕ)) (ps : List Procedure) (o : Option Procedure) → o ≡ None → ¬ (StandsInside (lines_in gs ps o))
no_inside_closed gs ps o e = subst (λ x. ¬ (StandsInside (lines_in gs ps x))) (sym e) (closed_inside gs ps)

pub no_variable_closed : (gs : List (List ℕ)) (ps : List Procedure) (o : Option Procedure) → o ≡ None → ¬ (StandsAtVariables (lines_in gs ps o))
no_variable_closed gs ps o e = subst (λ x. ¬ (StandsAtVariables (lines_in gs ps x))) (sym e) (closed_variables gs ps)

pub inside_open : (gs : List (List ℕ)) (ps : List Procedure) (o : Option Procedure) (p : Procedure) → o ≡ Some p → StandsInside (lines_in gs ps o)
inside_open gs ps o p e = subst (λ x. StandsInside (lines_in gs ps x)) (sym e) (open_kinds p _ (open_stand gs ps p)).2

pub variable_open : (gs : List (List ℕ)) (ps : List Procedure) (o : Option Procedure) (p : Procedure) → o ≡ Some p → length p.statements.items ≡ 0 → StandsAtVariables (lines_in gs ps o)
variable_open gs ps o p e none = subst (λ x. StandsAtVariables (lines_in gs ps x)) (sym e) ((variable_kinds p _ (open_stand gs ps p)).0 none)

pub no_variable_stated : (gs : List (List ℕ)) (ps : List Procedure) (o : Option Procedure) (p : Procedure) → o ≡ Some p → length p.statements.items ≢ 0 → ¬ (StandsAtVariables (lines_in gs ps o))
no_variable_stated gs ps o p e some = subst (λ x. ¬ (StandsAtVariables (lines_in gs ps x))) (sym e) ((variable_kinds p _ (open_stand gs ps p)).1 some)

-- ---- counts
pub last_le_most : (ls : List Line) → last_variables ls ≤ most_variables ls
last_le_most [] = omega arith
last_le_most (l ∷ ls) = omega arith

pub counts_global : (g : List ℕ) (ls : List Line) → (count_by begins_procedure (Global g ∷ ls) ≡ count_by begins_procedure ls) × (sum_by nodes_on (Global g ∷ ls) ≡ sum_by nodes_on ls) × (count_by is_global (Global g ∷ ls) ≡ count_by is_global ls + 1) × (most_variables (Global g ∷ ls) ≡ most_variables ls)
counts_global g ls = let low = last_le_most ls in (omega (arith, sum_by-cons (λ l. cond (begins_procedure l) 1 0) (Global g) ls), omega (arith, sum_by-cons nodes_on (Global g) ls), omega (arith, sum_by-cons (λ l. cond (is_global l) 1 0) (Global g) ls), omega arith)

pub counts_begin : (p : List ℕ) (parameters : _) (ls : List Line) → (count_by begins_procedure (Begin p parameters ∷ ls) ≡ count_by begins_procedure ls + 1) × (sum_by nodes_on (Begin p parameters ∷ ls) ≡ sum_by nodes_on ls + 2) × (count_by is_global (Begin p parameters ∷ ls) ≡ count_by is_global ls) × (most_variables (Begin p parameters ∷ ls) ≡ max (most_variables ls) (vec_len parameters))
counts_begin p parameters ls = (omega (arith, sum_by-cons (λ l. cond (begins_procedure l) 1 0) (Begin p parameters) ls), omega (arith, sum_by-cons nodes_on (Begin p parameters) ls), omega (arith, sum_by-cons (λ l. cond (is_global l) 1 0) (Begin p parameters) ls), refl)

pub counts_local : (x : List ℕ) (ls : List Line) → (count_by begins_procedure (Local x ∷ ls) ≡ count_by begins_procedure ls) × (sum_by nodes_on (Local x ∷ ls) ≡ sum_by nodes_on ls) × (count_by is_global (Local x ∷ ls) ≡ count_by is_global ls) × (most_variables (Local x ∷ ls) ≡ max (most_variables ls) (last_variables ls + 1))
counts_local x ls = (omega (arith, sum_by-cons (λ l. cond (begins_procedure l) 1 0) (Local x) ls), omega (arith, sum_by-cons nodes_on (Local x) ls), omega (arith, sum_by-cons (λ l. cond (is_global l) 1 0) (Local x) ls), refl)

pub counts_step : (s : Statement) (ls : List Line) → (count_by begins_procedure (Step s ∷ ls) ≡ count_by begins_procedure ls) × (sum_by nodes_on (Step s ∷ ls) ≡ sum_by nodes_on ls + nodes_on (Step s)) × (count_by is_global (Step s ∷ ls) ≡ count_by is_global ls) × (most_variables (Step s ∷ ls) ≡ most_variables ls)
counts_step s ls = let low = last_le_most ls in (omega (arith, sum_by-cons (λ l. cond (begins_procedure l) 1 0) (Step s) ls), omega (arith, sum_by-cons nodes_on (Step s) ls), omega (arith, sum_by-cons (λ l. cond (is_global l) 1 0) (Step s) ls), omega arith)

pub counts_end : (ls : List Line) → (count_by begins_procedure (End ∷ ls) ≡ count_by begins_procedure ls) × (sum_by nodes_on (End ∷ ls) ≡ sum_by nodes_on ls) × (count_by is_global (End ∷ ls) ≡ count_by is_global ls) × (most_variables (End ∷ ls) ≡ most_variables ls)
counts_end ls = let low = last_le_most ls in (omega (arith, sum_by-cons (λ l. cond (begins_procedure l) 1 0) End ls), omega (arith, sum_by-cons nodes_on End ls), omega (arith, sum_by-cons (λ l. cond (is_global l) 1 0) End ls), omega arith)

-- ---- the reader's counts after one line more
pub counted_from : (r : Reader) (ls : List Line) → taken_lines r ≡ ls → vec_len r.globals ≡ count_by is_global ls →
    vec_len r.procedures + length (option_to_list r.open) ≡ count_by begins_procedure ls → r.nodes ≡ sum_by nodes_on ls →
    IfSome r.open (λ p. vec_len p.parameters + vec_len p.locals ≡ last_variables ls) → r.most_variables ≡ most_variables ls → Fits ls → IsCounted r
counted_from r ls e globals procedures nodes variables most fits = record {
  globals = globals ∙ ap (count_by is_global) (sym e);
  procedures = procedures ∙ ap (count_by begins_procedure) (sym e);
  nodes = nodes ∙ ap (sum_by nodes_on) (sym e);
  variables = subst (λ xs. IfSome r.open (λ p. vec_len p.parameters + vec_len p.locals ≡ last_variables xs)) (sym e) variables;
  most = most ∙ ap most_variables (sym e);
  fits = subst Fits (sym e) fits;
}

pub global_taken : (gs : List (List ℕ)) (ps : List Procedure) (o : Option Procedure) (g : List ℕ) → is_some o ≡ false → length ps ≡ 0 →
    lines_in (gs ++ g ∷ []) ps o ≡ Global g ∷ lines_in gs ps o
global_taken gs [] None g closed none = lines_push (λ x. Global x) gs g
global_taken gs (p ∷ ps) None g closed none = absurd (omega arith)
global_taken gs ps (Some p) g closed none = absurd (false≢true (sym closed))

-- what a procedure has in its lists decides its lines, and not the room of these
open_same : (p p' : Procedure) → p'.name ≡ p.name → p'.parameters ≡ p.parameters → p'.locals ≡ p.locals → p'.statements.items ≡ p.statements.items → open_lines p' ≡ open_lines p
open_same p p' name parameters locals statements =
    let step : reverse (map (λ t. Step t) p'.statements.items) ≡ reverse (map (λ t. Step t) p.statements.items) = ap (λ ts. reverse (map (λ t. Step t) ts)) statements in
    let head : reverse (map (λ x. Local x) p'.locals.items) ++ Begin p'.name p'.parameters ∷ [] ≡ reverse (map (λ x. Local x) p.locals.items) ++ Begin p.name p.parameters ∷ [] = cc in
    cc

pub end_taken : (gs : List (List ℕ)) (ps : List Procedure) (o : Option Procedure) (p p' : Procedure) → o ≡ Some p →
    p'.name ≡ p.name → p'.parameters ≡ p.parameters → p'.locals ≡ p.locals → p'.statements.items ≡ p.statements.items →
    lines_in gs (ps ++ p' ∷ []) None ≡ End ∷ lines_in gs ps o
end_taken gs ps o p p' e name parameters locals statements =
    ap (λ ls. ls ++ global_lines gs) (ended_push ps p')
    ∙ ap (λ ls. End ∷ ls) (append_assoc (open_lines p') (ended_lines ps) (global_lines gs))
    ∙ ap (λ ls. End ∷ (ls ++ (ended_lines ps ++ global_lines gs))) (open_same p p' name parameters locals statements)
    ∙ ap (λ x. End ∷ lines_in gs ps x) (sym e)

open_step : (p p' : Procedure) (s : Statement) → p'.name ≡ p.name → p'.parameters ≡ p.parameters → p'.locals ≡ p.locals → p'.statements.items ≡ p.statements.items ++ s ∷ [] →
    open_lines p' ≡ Step s ∷ open_lines p
open_step p p' s name parameters locals statements =
    let step : reverse (map (λ t. Step t) p'.statements.items) ≡ Step s ∷ reverse (map (λ t. Step t) p.statements.items) = ap (λ ts. reverse (map (λ t. Step t) ts)) statements ∙ lines_push (λ t. Step t) p.statements.items s in
    let head : reverse (map (λ x. Local x) p'.locals.items) ++ Begin p'.name p'.parameters ∷ [] ≡ reverse (map (λ x. Local x) p.locals.items) ++ Begin p.name p.parameters ∷ [] = cc in
    cc

pub step_taken : (gs : List (List ℕ)) (ps : List Procedure) (o : Option Procedure) (p p' : Procedure) (s : Statement) → o ≡ Some p →
    p'.name ≡ p.name → p'.parameters ≡ p.parameters → p'.locals ≡ p.locals → p'.statements.items ≡ p.statements.items ++ s ∷ [] →
    lines_in gs ps (Some p') ≡ Step s ∷ lines_in gs ps o
step_taken gs ps o p p' s e name parameters locals statements =
    ap (λ ls. ls ++ (ended_lines ps ++ global_lines gs)) (open_step p p' s name parameters locals statements)
    ∙ ap (λ x. Step s ∷ lines_in gs ps x) (sym e)

-- ---- an open procedure, or none
pub at_open : (o : Option Procedure) (p : Procedure) (P : Procedure → Type 0) → o ≡ Some p → IfSome o P → P p
at_open o p P e h = subst (λ x. IfSome x P) e h

pub none_open : (o : Option Procedure) (P : Procedure → Type 0) → is_some o ≡ false → IfSome o P
none_open None P e = tt
none_open (Some p) P e = absurd (false≢true (sym e))

pub length_closed : (o : Option Procedure) → is_some o ≡ false → length (option_to_list o) ≡ 0
length_closed None e = refl
length_closed (Some p) e = absurd (false≢true (sym e))
