-- What the limits say of a draft's parts: how many nodes and facts it has, and that it is of the
-- grammar.
use Rattle.std.specs.Prelude.{◌≡◌, ℕ, ◌+◌, ◌≤◌, List, [], ◌∷◌, ◌++◌, length, map, reverse, slice_get, Some, None, sum_by, count_by, refl}
use Rattle.std.specs.List.{AllByRecursion}
use Rattle.std.proofs.Common.{zero, suc, cond, ◌∙◌, sym, ap, subst, arith, append_assoc}
use Rattle.std.proofs.lemmas.List.{reverse-append}
use Rattle.std.proofs.lemmas.List.Sums.{sum_by-append, sum_by-cons}
use Rattle.ide_text.specs.declared.line.Line.{Line}
use Rattle.ide_text.specs.declared.line.Line.TheVariants.{Global, Procedure as Begin, Local, End, Statement as Step}
use Rattle.ide_text.specs.declared.program.Draft.{Draft}
use Rattle.ide_text.specs.declared.program.Procedure.{Procedure}
use Rattle.ide_text.specs.declared.program.Statement.{Statement}
use Rattle.ide_text.specs.declared.program.Statement.TheVariants.{Assign, Skip, At, Goto, Branch, Call, Return}
use Rattle.ide_text.specs.FirstFault.{AreTaken, Fits, MayEnd, is_global, last_variables, most_variables, nodes_on}
use Rattle.ide_text.specs.Grammar.{IsLine, IsProcedure, IsProgram}
use Rattle.ide_text.specs.Lines.{open_lines, ended_lines, global_lines, draft_lines, IsWithinLimits}
use Rattle.ide_text.specs.Draft.{draft_globals, draft_procedures}

-- how many nodes a statement has
abbrev pub statement_nodes : Statement → ℕ
statement_nodes (Call x callees arguments) = 2
statement_nodes (Assign x e) = 1
statement_nodes Skip = 1
statement_nodes (At l) = 1
statement_nodes (Goto l) = 1
statement_nodes (Branch l) = 1
statement_nodes (Return y) = 1

-- how many nodes a procedure has
abbrev pub procedure_nodes : Procedure → ℕ
procedure_nodes q = 2 + sum_by statement_nodes q.statements.items

-- how many parameters and locals a procedure has
abbrev pub own_count : Procedure → ℕ
own_count q = length q.parameters.items + length q.locals.items

-- ---- the lines as a whole
taken_fit : (lines : List Line) → AreTaken lines → MayEnd lines → Fits lines
taken_fit [] taken ended = absurd ended
taken_fit (l ∷ before) taken ended = taken.3

taken_are_lines : (lines : List Line) → AreTaken lines → AllByRecursion IsLine lines
taken_are_lines [] taken = tt
taken_are_lines (l ∷ before) taken = (taken.1, taken_are_lines before taken.0)

reverse_map : {X : Type 0} (f : X → Line) (x : X) (xs : List X) → reverse (map f (x ∷ xs)) ≡ reverse (map f xs) ++ f x ∷ []
reverse_map f x xs = reverse-append (f x ∷ []) (map f xs)

-- ---- procedures
-- a global does not end a text
still_open : (lines : List Line) (g : List ℕ) → (MayEnd lines → ⊥) → MayEnd (lines ++ Global g ∷ []) → ⊥
still_open [] g before ended = ended
still_open (Global h ∷ lines) g before ended = ended
still_open (Begin name parameters ∷ lines) g before ended = ended
still_open (Local x ∷ lines) g before ended = ended
still_open (End ∷ lines) g before ended = before tt
still_open (Step s ∷ lines) g before ended = ended

globals_open : (globals : List (List ℕ)) → MayEnd (global_lines globals) → ⊥
globals_open [] ended = ended
globals_open (g ∷ globals) ended = still_open (global_lines globals) g (globals_open globals) (subst MayEnd (reverse_map (λ h. Global h) g globals) ended)

ended_some : (globals : List (List ℕ)) (procedures : List Procedure) → MayEnd (ended_lines procedures ++ global_lines globals) → 1 ≤ length procedures
ended_some globals [] ended = absurd (globals_open globals ended)
ended_some globals (q ∷ procedures) ended = omega arith

-- a draft within the limits has a procedure
pub limits_procedures : (p : Draft) → IsWithinLimits p → 1 ≤ length (draft_procedures p)
limits_procedures p within = ended_some (draft_globals p) (draft_procedures p) within.ended

-- ---- sums
sum_map : {X : Type 0} (g : Line → ℕ) (f : X → Line) (xs : List X) → sum_by g (reverse (map f xs)) ≡ sum_by (λ x. g (f x)) xs
sum_map g f [] = refl
sum_map g f (x ∷ xs) =
    ap (sum_by g) (reverse_map f x xs) ∙ sum_by-append g (reverse (map f xs)) (f x ∷ [])
    ∙ (let one : sum_by g (f x ∷ []) ≡ g (f x) + sum_by g [] = sum_by-cons g (f x) [] in
    let more : sum_by (λ y. g (f y)) (x ∷ xs) ≡ g (f x) + sum_by (λ y. g (f y)) xs = sum_by-cons (λ y. g (f y)) x xs in
    let before = sum_map g f xs in
    let none : sum_by g [] ≡ 0 = refl in
    omega arith)

sum_none : {X : Type 0} (xs : List X) → sum_by (λ x. 0) xs ≡ 0
sum_none [] = refl
sum_none (x ∷ xs) = sum_by-cons (λ y. 0) x xs ∙ omega (arith, sum_none xs)

sum_ones : {X : Type 0} (xs : List X) → sum_by (λ x. 1) xs ≡ length xs
sum_ones [] = refl
sum_ones (x ∷ xs) = sum_by-cons (λ y. 1) x xs ∙ omega (arith, sum_ones xs)

nodes_on_step : (s : Statement) → nodes_on (Step s) ≡ statement_nodes s
nodes_on_step (Assign x e) = refl
nodes_on_step Skip = refl
nodes_on_step (At l) = refl
nodes_on_step (Goto l) = refl
nodes_on_step (Branch l) = refl
nodes_on_step (Call x callees arguments) = refl
nodes_on_step (Return y) = refl

sum_steps : (ss : List Statement) → sum_by (λ s. nodes_on (Step s)) ss ≡ sum_by statement_nodes ss
sum_steps [] = refl
sum_steps (s ∷ ss) =
    sum_by-cons (λ t. nodes_on (Step t)) s ss ∙ omega (arith, nodes_on_step s, sum_steps ss) ∙ sym (sum_by-cons statement_nodes s ss)

open_nodes : (q : Procedure) → sum_by nodes_on (open_lines q) ≡ procedure_nodes q
open_nodes q =
    let steps = reverse (map (λ s. Step s) q.statements.items) in
    let locals = reverse (map (λ x. Local x) q.locals.items) in
    let of_steps : sum_by nodes_on steps ≡ sum_by statement_nodes q.statements.items = sum_map nodes_on (λ s. Step s) q.statements.items ∙ sum_steps q.statements.items in
    let of_locals : sum_by nodes_on locals ≡ 0 = sum_map nodes_on (λ x. Local x) q.locals.items ∙ sum_none q.locals.items in
    let first : sum_by nodes_on (Begin q.name q.parameters ∷ []) ≡ 2 + 0 = sum_by-cons nodes_on (Begin q.name q.parameters) [] in
    sum_by-append nodes_on steps (locals ++ Begin q.name q.parameters ∷ [])
    ∙ ap (λ n. sum_by nodes_on steps + n) (sum_by-append nodes_on locals (Begin q.name q.parameters ∷ []))
    ∙ omega arith

ended_nodes : (ps : List Procedure) → sum_by nodes_on (ended_lines ps) ≡ sum_by procedure_nodes ps
ended_nodes [] = refl
ended_nodes (q ∷ ps) =
    sum_by-append nodes_on (ended_lines ps) (End ∷ open_lines q)
    ∙ (let last : sum_by nodes_on (End ∷ open_lines q) ≡ 0 + sum_by nodes_on (open_lines q) = sum_by-cons nodes_on End (open_lines q) in
    let more : sum_by procedure_nodes (q ∷ ps) ≡ procedure_nodes q + sum_by procedure_nodes ps = sum_by-cons procedure_nodes q ps in
    omega (arith, ended_nodes ps, open_nodes q))

-- a draft has at most 65,536 nodes
pub limits_nodes : (p : Draft) → IsWithinLimits p → sum_by procedure_nodes (draft_procedures p) ≤ 65536
limits_nodes p limits =
    let fits = taken_fit (draft_lines p) limits.taken limits.ended in
    let all = sum_by-append nodes_on (ended_lines (draft_procedures p)) (global_lines (draft_globals p)) in
    let globals : sum_by nodes_on (global_lines (draft_globals p)) ≡ 0 = sum_map nodes_on (λ g. Global g) (draft_globals p) ∙ sum_none (draft_globals p) in
    omega (arith, fits.nodes, ended_nodes (draft_procedures p))

-- ---- facts
globals_below : (lines : List Line) (globals : List (List ℕ)) → length globals ≤ count_by is_global (lines ++ global_lines globals)
globals_below lines globals =
    let all = sum_by-append (λ l. cond (is_global l) 1 0) lines (global_lines globals) in
    let ones : sum_by (λ l. cond (is_global l) 1 0) (global_lines globals) ≡ length globals = sum_map (λ l. cond (is_global l) 1 0) (λ g. Global g) globals ∙ sum_ones globals in
    omega arith

last_steps : (ss : List Statement) (rest : List Line) → last_variables (reverse (map (λ s. Step s) ss) ++ rest) ≡ last_variables rest
last_steps [] rest = refl
last_steps (s ∷ ss) rest =
    ap (λ ls. last_variables (ls ++ rest)) (reverse_map (λ t. Step t) s ss)
    ∙ ap last_variables (append_assoc (reverse (map (λ t. Step t) ss)) (Step s ∷ []) rest)
    ∙ last_steps ss (Step s ∷ rest)

last_locals : (xs : List (List ℕ)) (rest : List Line) → last_variables (reverse (map (λ x. Local x) xs) ++ rest) ≡ last_variables rest + length xs
last_locals [] rest = omega arith
last_locals (x ∷ xs) rest =
    ap (λ ls. last_variables (ls ++ rest)) (reverse_map (λ y. Local y) x xs)
    ∙ ap last_variables (append_assoc (reverse (map (λ y. Local y) xs)) (Local x ∷ []) rest)
    ∙ last_locals xs (Local x ∷ rest)
    ∙ omega arith

last_open : (q : Procedure) (rest : List Line) → last_variables (open_lines q ++ rest) ≡ own_count q
last_open q rest =
    let steps = reverse (map (λ s. Step s) q.statements.items) in
    let locals = reverse (map (λ x. Local x) q.locals.items) in
    ap last_variables (append_assoc steps (locals ++ Begin q.name q.parameters ∷ []) rest)
    ∙ last_steps q.statements.items ((locals ++ Begin q.name q.parameters ∷ []) ++ rest)
    ∙ ap last_variables (append_assoc locals (Begin q.name q.parameters ∷ []) rest)
    ∙ last_locals q.locals.items (Begin q.name q.parameters ∷ rest)
    ∙ omega (arith, q.parameters.ok)

same_first : {X : Type 0} (x y : X) → Some x ≡ Some y → x ≡ y
same_first x y at = cc

most_after : (lines rest : List Line) → most_variables rest ≤ most_variables (lines ++ rest)
most_after [] rest = omega arith
most_after (l ∷ lines) rest = let before = most_after lines rest in omega (arith, before)

most_ended : (ps : List Procedure) (rest : List Line) (i : ℕ) (q : Procedure) → slice_get ps i ≡ Some q → own_count q ≤ most_variables (ended_lines ps ++ rest)
most_ended [] rest i q at = let no : None ≡ Some q = at in cc
most_ended (r ∷ ps) rest zero q at =
    let last = last_open r rest in
    let here : own_count r ≤ most_variables ((End ∷ open_lines r) ++ rest) = omega (arith, last) in
    let there = most_after (ended_lines ps) ((End ∷ open_lines r) ++ rest) in
    subst (λ lines. own_count q ≤ most_variables lines) (sym (append_assoc (ended_lines ps) (End ∷ open_lines r) rest))
    (subst (λ (t : Procedure). own_count t ≤ most_variables (ended_lines ps ++ ((End ∷ open_lines r) ++ rest))) (same_first r q at) (omega (arith, here, there)))
most_ended (r ∷ ps) rest (suc i) q at =
    subst (λ lines. own_count q ≤ most_variables lines) (sym (append_assoc (ended_lines ps) (End ∷ open_lines r) rest)) (most_ended ps ((End ∷ open_lines r) ++ rest) i q at)

-- a draft has at most 4,096 facts: so many for each of its procedures
pub limits_facts : (p : Draft) → IsWithinLimits p → (i : ℕ) (q : Procedure) → slice_get (draft_procedures p) i ≡ Some q → length (draft_globals p) + 2 + own_count q ≤ 4096
limits_facts p limits i q at =
    let fits = taken_fit (draft_lines p) limits.taken limits.ended in
    omega (arith, fits.facts, globals_below (ended_lines (draft_procedures p)) (draft_globals p), most_ended (draft_procedures p) (global_lines (draft_globals p)) i q at)

-- and where it has no procedure
pub limits_shared_facts : (p : Draft) → IsWithinLimits p → length (draft_globals p) + 2 ≤ 4096
limits_shared_facts p limits =
    let fits = taken_fit (draft_lines p) limits.taken limits.ended in
    omega (arith, fits.facts, globals_below (ended_lines (draft_procedures p)) (draft_globals p))

-- ---- the grammar
module _ {X : Type 0} (P : X → Type 0) where
  all_left : (xs ys : List X) → AllByRecursion P (xs ++ ys) → AllByRecursion P xs
  all_left [] ys all = tt
  all_left (x ∷ xs) ys all = (all.0, all_left xs ys all.1)

  all_right : (xs ys : List X) → AllByRecursion P (xs ++ ys) → AllByRecursion P ys
  all_right [] ys all = all
  all_right (x ∷ xs) ys all = all_right xs ys all.1

all_map : {X : Type 0} (P : Line → Type 0) (f : X → Line) (xs : List X) → AllByRecursion P (reverse (map f xs)) → AllByRecursion (λ x. P (f x)) xs
all_map P f [] all = tt
all_map P f (x ∷ xs) all =
    let split = subst (AllByRecursion P) (reverse_map f x xs) all in
    ((all_right P (reverse (map f xs)) (f x ∷ []) split).0, all_map P f xs (all_left P (reverse (map f xs)) (f x ∷ []) split))

open_procedure : (q : Procedure) → AllByRecursion IsLine (open_lines q) → IsProcedure q
open_procedure q lines =
    let steps = reverse (map (λ s. Step s) q.statements.items) in
    let locals = reverse (map (λ x. Local x) q.locals.items) in
    let after = all_right IsLine steps (locals ++ Begin q.name q.parameters ∷ []) lines in
    let first = all_right IsLine locals (Begin q.name q.parameters ∷ []) after in
    record {
      name = first.0.0;
      parameters = first.0.1;
      locals = all_map IsLine (λ x. Local x) q.locals.items (all_left IsLine locals (Begin q.name q.parameters ∷ []) after);
      statements = all_map IsLine (λ s. Step s) q.statements.items (all_left IsLine steps (locals ++ Begin q.name q.parameters ∷ []) lines);
    }

ended_procedures : (ps : List Procedure) → AllByRecursion IsLine (ended_lines ps) → AllByRecursion IsProcedure ps
ended_procedures [] all = tt
ended_procedures (q ∷ ps) all =
    (open_procedure q (all_right IsLine (ended_lines ps) (End ∷ open_lines q) all).1, ended_procedures ps (all_left IsLine (ended_lines ps) (End ∷ open_lines q) all))

-- a draft within the limits is of the grammar
pub limits_program : (p : Draft) → IsWithinLimits p → IsProgram p
limits_program p limits =
    let lines = taken_are_lines (draft_lines p) limits.taken in
    record {
      globals = all_map IsLine (λ g. Global g) (draft_globals p) (all_right IsLine (ended_lines (draft_procedures p)) (global_lines (draft_globals p)) lines);
      procedures = ended_procedures (draft_procedures p) (all_left IsLine (ended_lines (draft_procedures p)) (global_lines (draft_globals p)) lines);
    }
