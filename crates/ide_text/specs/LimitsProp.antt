-- That a draft is within the limits in one way at most, so that a program can keep it.
use Rattle.std.specs.Prelude.{ℕ, ◌≤◌, List, [], ◌∷◌, Option, None, Some, IfSome}
use Rattle.std.specs.Coded.{×_prop, Unit-prop, le_prop, Coded-set, coded_bool}
use Rattle.std.specs.List.{AllByRecursion}
use Rattle.ide_text.specs.declared.line.Line.{Line}
use Rattle.ide_text.specs.declared.line.Line.TheVariants.{Global, Procedure as Begin, Local, End, Statement as Step}
use Rattle.ide_text.specs.declared.program.Draft.{Draft}
use Rattle.ide_text.specs.declared.program.Expression.{Expression}
use Rattle.ide_text.specs.declared.program.Expression.TheVariants.{Number, Copy, Sum, Difference, Unknown, Mix}
use Rattle.ide_text.specs.declared.program.Statement.{Statement}
use Rattle.ide_text.specs.declared.program.Statement.TheVariants.{Assign, Skip, At, Goto, Branch, Call, Return}
use Rattle.ide_text.specs.FirstFault.{AreTaken, Fits, MayEnd, MayFollow, StandsAtGlobals, StandsAtVariables, StandsInside, StandsOutside, parameters_on}
use Rattle.ide_text.specs.Grammar.{HasNameBytes, IsExpression, IsLine, IsName, IsStatement}
use Rattle.ide_text.specs.Lines.{IsWithinLimits}

⊥-prop : IsProp ⊥
⊥-prop x y = absurd x

all-prop : {X : Type 0} (P : X → Type 0) → ((x : X) → IsProp (P x)) → (xs : List X) → IsProp (AllByRecursion P xs)
all-prop P one [] = Unit-prop
all-prop P one (x ∷ xs) = ×_prop (one x) (all-prop P one xs)

-- ---- the grammar
name_bytes-prop : (name : List ℕ) → IsProp (HasNameBytes name)
name_bytes-prop [] = ⊥-prop
name_bytes-prop (first ∷ rest) = hlevel (le_prop, Coded-set coded_bool)

name-prop : (name : List ℕ) → IsProp (IsName name)
name-prop name = hlevel name_bytes-prop

some_name-prop : (name : Option (List ℕ)) → IsProp (IfSome name IsName)
some_name-prop None = Unit-prop
some_name-prop (Some name) = name-prop name

names-prop : (names : List (List ℕ)) → IsProp (AllByRecursion IsName names)
names-prop = all-prop IsName name-prop

expression-prop : (e : Expression) → IsProp (IsExpression e)
expression-prop (Number n) = le_prop
expression-prop (Copy y) = name-prop y
expression-prop (Sum y n) = ×_prop (name-prop y) le_prop
expression-prop (Difference y n) = ×_prop (name-prop y) le_prop
expression-prop Unknown = Unit-prop
expression-prop (Mix y z) = ×_prop (name-prop y) (name-prop z)

statement-prop : (s : Statement) → IsProp (IsStatement s)
statement-prop (Assign x e) = ×_prop (name-prop x) (expression-prop e)
statement-prop Skip = Unit-prop
statement-prop (At l) = name-prop l
statement-prop (Goto l) = name-prop l
statement-prop (Branch l) = name-prop l
statement-prop (Call x callees arguments) =
    let target_prop = some_name-prop x in
    let callees_prop = names-prop callees.items in
    let arguments_prop = names-prop arguments.items in
    hlevel (target_prop, le_prop, callees_prop, arguments_prop)
statement-prop (Return y) = some_name-prop y

line-prop : (l : Line) → IsProp (IsLine l)
line-prop (Global g) = name-prop g
line-prop (Begin p parameters) = ×_prop (name-prop p) (names-prop parameters.items)
line-prop (Local x) = name-prop x
line-prop End = Unit-prop
line-prop (Step s) = statement-prop s

-- ---- places
at_globals-prop : (before : List Line) → IsProp (StandsAtGlobals before)
at_globals-prop [] = Unit-prop
at_globals-prop (Global g ∷ before) = Unit-prop
at_globals-prop (Begin p parameters ∷ before) = ⊥-prop
at_globals-prop (Local x ∷ before) = ⊥-prop
at_globals-prop (End ∷ before) = ⊥-prop
at_globals-prop (Step s ∷ before) = ⊥-prop

outside-prop : (before : List Line) → IsProp (StandsOutside before)
outside-prop [] = Unit-prop
outside-prop (Global g ∷ before) = Unit-prop
outside-prop (Begin p parameters ∷ before) = ⊥-prop
outside-prop (Local x ∷ before) = ⊥-prop
outside-prop (End ∷ before) = Unit-prop
outside-prop (Step s ∷ before) = ⊥-prop

at_variables-prop : (before : List Line) → IsProp (StandsAtVariables before)
at_variables-prop [] = ⊥-prop
at_variables-prop (Global g ∷ before) = ⊥-prop
at_variables-prop (Begin p parameters ∷ before) = Unit-prop
at_variables-prop (Local x ∷ before) = Unit-prop
at_variables-prop (End ∷ before) = ⊥-prop
at_variables-prop (Step s ∷ before) = ⊥-prop

inside-prop : (before : List Line) → IsProp (StandsInside before)
inside-prop [] = ⊥-prop
inside-prop (Global g ∷ before) = ⊥-prop
inside-prop (Begin p parameters ∷ before) = Unit-prop
inside-prop (Local x ∷ before) = Unit-prop
inside-prop (End ∷ before) = ⊥-prop
inside-prop (Step s ∷ before) = Unit-prop

follow-prop : (before : List Line) (l : Line) → IsProp (MayFollow before l)
follow-prop before (Global g) = at_globals-prop before
follow-prop before (Begin p parameters) = outside-prop before
follow-prop before (Local x) = at_variables-prop before
follow-prop before (Step s) = inside-prop before
follow-prop before End = inside-prop before

end-prop : (lines : List Line) → IsProp (MayEnd lines)
end-prop [] = ⊥-prop
end-prop (Global g ∷ before) = ⊥-prop
end-prop (Begin p parameters ∷ before) = ⊥-prop
end-prop (Local x ∷ before) = ⊥-prop
end-prop (End ∷ before) = Unit-prop
end-prop (Step s ∷ before) = ⊥-prop

-- ---- limits
parameters-prop : (lines : List Line) → IsProp (AllByRecursion (λ l. parameters_on l ≤ 16) lines)
parameters-prop = all-prop (λ l. parameters_on l ≤ 16) (λ l. le_prop)

fits-prop : (lines : List Line) → IsProp (Fits lines)
fits-prop lines = hlevel (le_prop, parameters-prop)

taken-prop : (lines : List Line) → IsProp (AreTaken lines)
taken-prop [] = Unit-prop
taken-prop (l ∷ before) =
    let before_prop = taken-prop before in
    let line_prop = line-prop l in
    let follow_prop = follow-prop before l in
    let fits_prop = fits-prop (l ∷ before) in
    hlevel (before_prop, line_prop, follow_prop, fits_prop)

pub IsWithinLimits-prop : (d : Draft) → IsProp (IsWithinLimits d)
IsWithinLimits-prop d = hlevel (taken-prop, end-prop)
