-- Drafts of one value are within the same limits.
use Rattle.std.proofs.Common.{◌≤◌, ◌≡◌, List, [], ◌∷◌, ◌++◌, IfSome, length, map, reverse, ap, sym, refl, ◌∙◌, subst, arith, append_assoc}
use Rattle.std.specs.List.{AllByRecursion}
use Rattle.std.proofs.lemmas.List.{reverse-append}
use Rattle.ide_text.specs.declared.line.Line.{Line}
use Rattle.ide_text.specs.declared.line.Line.TheVariants.{Global, Procedure as Begin, Local, End, Statement as Step}
use Rattle.ide_text.specs.declared.program.Draft.{Draft}
use Rattle.ide_text.specs.declared.program.Procedure.{Procedure}
use Rattle.ide_text.specs.declared.program.Statement.TheVariants.{Assign, Skip, At, Goto, Branch, Call, Return}
use Rattle.ide_text.specs.Draft.{draft_globals, draft_procedures}
use Rattle.ide_text.specs.FirstFault.{AreTaken, nodes_on}
use Rattle.ide_text.specs.Grammar.{IsLine, IsName, IsStatement}
use Rattle.ide_text.specs.Lines.{IsWithinLimits, draft_lines, ended_lines, global_lines, open_lines}
use Rattle.ide_text.specs.Value.{ProcedureValue, ProgramValue, calling, other, draft_value, value_of_procedure, value_of_statement}
use Rattle.ide_text.proofs.OneProgram.{LineValue, at_global, at_local, at_procedure, at_end, at_statement, line_value, open_apart, reversed, values}
use Rattle.ide_text.proofs.Shapes as shapes
use Rattle.ide_text.proofs.Shapes.{Shape, shape, Fits-same, MayEnd-same, MayFollow-same}

-- ---- the value of a draft tells those of its lines
value_reversed : {X : Type 0} (f : X → LineValue) (x : X) (xs : List X) (rest : List LineValue) → reverse (map f (x ∷ xs)) ++ rest ≡ reverse (map f xs) ++ (f x ∷ rest)
value_reversed f x xs rest = ap (λ vs. vs ++ rest) (reverse-append (f x ∷ []) (map f xs)) ∙ append_assoc (reverse (map f xs)) (f x ∷ []) rest

-- lines of one kind
kind_values : {X : Type 0} (f : X → Line) (v : X → LineValue) → ((x : X) → line_value (f x) ≡ v x) → (xs : List X) (rest : List Line) →
    values (reverse (map f xs) ++ rest) ≡ reverse (map v xs) ++ values rest
kind_values f v told [] rest = refl
kind_values f v told (x ∷ xs) rest =
    ap values (reversed f x xs rest)
    ∙ kind_values f v told xs (f x ∷ rest)
    ∙ ap (λ (w : LineValue). reverse (map v xs) ++ (w ∷ values rest)) (told x)
    ∙ sym (value_reversed v x xs (values rest))

map_twice : {X Y Z : Type 0} (f : X → Y) (g : Y → Z) (xs : List X) → map (λ x. g (f x)) xs ≡ map g (map f xs)
map_twice f g [] = refl
map_twice f g (x ∷ xs) = ap (λ zs. g (f x) ∷ zs) (map_twice f g xs)

abbrev open_values : ProcedureValue → List LineValue → List LineValue
open_values v rest = reverse (map at_statement v.statements) ++ (reverse (map at_local v.locals) ++ (at_procedure v.name v.parameters ∷ rest))

abbrev ended_values : List ProcedureValue → List LineValue → List LineValue
ended_values [] rest = rest
ended_values (v ∷ vs) rest = ended_values vs (at_end ∷ open_values v rest)

open_are : (p : Procedure) (rest : List Line) → values (open_lines p ++ rest) ≡ open_values (value_of_procedure p) (values rest)
open_are p rest =
    let begun = Begin p.name p.parameters ∷ rest in
    let locals = reverse (map (λ x. Local x) p.locals.items) ++ begun in
    ap values (open_apart p rest)
    ∙ kind_values (λ s. Step s) (λ s. at_statement (value_of_statement s)) (λ s. refl) p.statements.items locals
    ∙ ap (λ vs. reverse vs ++ values locals) (map_twice value_of_statement at_statement p.statements.items)
    ∙ ap (λ vs. reverse (map at_statement (map value_of_statement p.statements.items)) ++ vs) (kind_values (λ x. Local x) at_local (λ x. refl) p.locals.items begun)

ended_are : (ps : List Procedure) (rest : List Line) → values (ended_lines ps ++ rest) ≡ ended_values (map value_of_procedure ps) (values rest)
ended_are [] rest = refl
ended_are (p ∷ ps) rest =
    ap values (append_assoc (ended_lines ps) (End ∷ open_lines p) rest)
    ∙ ended_are ps (End ∷ (open_lines p ++ rest))
    ∙ ap (λ vs. ended_values (map value_of_procedure ps) (at_end ∷ vs)) (open_are p rest)

abbrev program_values : ProgramValue → List LineValue
program_values v = ended_values v.procedures (values (global_lines v.globals))

lines_are : (d : Draft) → values (draft_lines d) ≡ program_values (draft_value d)
lines_are d = ended_are (draft_procedures d) (global_lines (draft_globals d))

-- ---- and these tell what is taken
abbrev value_shape : LineValue → Shape
value_shape (at_global g) = shapes.at_global
value_shape (at_local x) = shapes.at_local
value_shape (at_procedure p parameters) = shapes.at_procedure (length parameters)
value_shape at_end = shapes.at_end
value_shape (at_statement (calling x callees arguments)) = shapes.at_statement 2
value_shape (at_statement (other s)) = shapes.at_statement (nodes_on (Step s))

shape_is : (l : Line) → shape l ≡ value_shape (line_value l)
shape_is (Global g) = refl
shape_is (Begin p parameters) = ap shapes.at_procedure (omega (arith, parameters.ok))
shape_is (Local x) = refl
shape_is End = refl
shape_is (Step (Assign x e)) = refl
shape_is (Step Skip) = refl
shape_is (Step (At l)) = refl
shape_is (Step (Goto l)) = refl
shape_is (Step (Branch l)) = refl
shape_is (Step (Call x callees arguments)) = refl
shape_is (Step (Return y)) = refl

shapes_are : (ls : List Line) → map shape ls ≡ map value_shape (values ls)
shapes_are [] = refl
shapes_are (l ∷ ls) = ap (λ s. s ∷ map shape ls) (shape_is l) ∙ ap (λ ss. value_shape (line_value l) ∷ ss) (shapes_are ls)

shapes_same : (ls ms : List Line) → values ls ≡ values ms → map shape ls ≡ map shape ms
shapes_same ls ms e = shapes_are ls ∙ ap (map value_shape) e ∙ sym (shapes_are ms)

abbrev IsLineValue : LineValue → Type 0
IsLineValue (at_global g) = IsName g
IsLineValue (at_local x) = IsName x
IsLineValue (at_procedure p parameters) = IsName p × AllByRecursion IsName parameters
IsLineValue at_end = Unit {0}
IsLineValue (at_statement (calling x callees arguments)) =
    IfSome x IsName × (1 ≤ length callees) × AllByRecursion IsName callees × AllByRecursion IsName arguments
IsLineValue (at_statement (other s)) = IsStatement s

line_tells : (l : Line) → (IsLine l → IsLineValue (line_value l)) × (IsLineValue (line_value l) → IsLine l)
line_tells (Global g) = ((λ h. h), (λ h. h))
line_tells (Begin p parameters) = ((λ h. h), (λ h. h))
line_tells (Local x) = ((λ h. h), (λ h. h))
line_tells End = ((λ h. h), (λ h. h))
line_tells (Step (Assign x e)) = ((λ h. h), (λ h. h))
line_tells (Step Skip) = ((λ h. h), (λ h. h))
line_tells (Step (At l)) = ((λ h. h), (λ h. h))
line_tells (Step (Goto l)) = ((λ h. h), (λ h. h))
line_tells (Step (Branch l)) = ((λ h. h), (λ h. h))
line_tells (Step (Call x callees arguments)) = ((λ h. h), (λ h. h))
line_tells (Step (Return y)) = ((λ h. h), (λ h. h))

heads_same : (l m : Line) (ls ms : List Line) → values (l ∷ ls) ≡ values (m ∷ ms) → (line_value l ≡ line_value m) × (values ls ≡ values ms)
heads_same l m ls ms e =
    let head : line_value l ≡ line_value m = cc in
    let tail : values ls ≡ values ms = cc in
    (head, tail)

AreTaken-same : (ls ms : List Line) → values ls ≡ values ms → AreTaken ls → AreTaken ms
AreTaken-same [] [] e h = tt
AreTaken-same [] (m ∷ ms) e h = absurd (cc)
AreTaken-same (l ∷ ls) [] e h = absurd (cc)
AreTaken-same (l ∷ ls) (m ∷ ms) e h =
    let same = heads_same l m ls ms e in
    let one : shape l ≡ shape m = shape_is l ∙ ap value_shape same.0 ∙ sym (shape_is m) in (
      AreTaken-same ls ms same.1 h.0,
      (line_tells m).1 (subst IsLineValue same.0 ((line_tells l).0 h.1)),
      MayFollow-same ls ms l m (shapes_same ls ms same.1) one h.2,
      Fits-same (l ∷ ls) (m ∷ ms) (shapes_same (l ∷ ls) (m ∷ ms) e) h.3,
    )

pub IsWithinLimits-same : (d e : Draft) → draft_value d ≡ draft_value e → IsWithinLimits d → IsWithinLimits e
IsWithinLimits-same d e same h =
    let lines : values (draft_lines d) ≡ values (draft_lines e) = lines_are d ∙ ap program_values same ∙ sym (lines_are e) in
    record {
      taken = AreTaken-same (draft_lines d) (draft_lines e) lines h.taken;
      ended = MayEnd-same (draft_lines d) (draft_lines e) (shapes_same (draft_lines d) (draft_lines e) lines) h.ended;
    }
