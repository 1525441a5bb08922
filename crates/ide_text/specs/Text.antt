-- The one text of a draft.
use Rattle.std.specs.Prelude.{ℕ, List, [], ◌∷◌, ◌++◌, Option, Some, None, codes, decimal, ◌≡◌}
use Rattle.std.specs.List.{flat_map}
use Rattle.ide_text.specs.declared.line.Line.{Line}
use Rattle.ide_text.specs.declared.line.Line.TheVariants.{Global, Procedure as Begin, Local, End, Statement as Step}
use Rattle.ide_text.specs.declared.program.Draft.{Draft}
use Rattle.ide_text.specs.declared.program.Procedure.{Procedure}
use Rattle.ide_text.specs.declared.program.Statement.{Statement}
use Rattle.ide_text.specs.declared.program.Statement.TheVariants.{Assign, Skip, At, Goto, Branch, Call, Return}
use Rattle.ide_text.specs.declared.program.Expression.{Expression}
use Rattle.ide_text.specs.declared.program.Expression.TheVariants.{Number, Copy, Sum, Difference, Unknown, Mix}
use Rattle.ide_text.specs.Draft.{draft_globals, draft_procedures}

-- names, each after a space
abbrev pub names_text : List (List ℕ) → List ℕ
names_text names = flat_map (λ name. codes " " ++ name) names

-- callees behind the first, each after ` | `
abbrev pub bars_text : List (List ℕ) → List ℕ
bars_text callees = flat_map (λ callee. codes " | " ++ callee) callees

-- callees, parted by ` | `, after a space
abbrev pub callees_text : List (List ℕ) → List ℕ
callees_text [] = []
callees_text (callee ∷ callees) = codes " " ++ callee ++ bars_text callees

-- what an assignment gives
abbrev pub expression_text : Expression → List ℕ
expression_text (Number n) = decimal n
expression_text (Copy y) = y
expression_text (Sum y n) = y ++ codes " + " ++ decimal n
expression_text (Difference y n) = y ++ codes " - " ++ decimal n
expression_text Unknown = codes "?"
expression_text (Mix y z) = codes "mix " ++ y ++ codes " " ++ z

-- the target of a call, where it has one
abbrev pub target_text : Option (List ℕ) → List ℕ
target_text None = []
target_text (Some x) = x ++ codes " = "

-- a call
abbrev pub call_text : Option (List ℕ) → List (List ℕ) → List (List ℕ) → List ℕ
call_text x callees arguments = target_text x ++ codes "call" ++ callees_text callees ++ names_text arguments

-- the value of a return, where it has one
abbrev pub value_text : Option (List ℕ) → List ℕ
value_text None = []
value_text (Some y) = codes " " ++ y

-- a statement, without the LF of its line
abbrev pub statement_text : Statement → List ℕ
statement_text (Assign x e) = x ++ codes " = " ++ expression_text e
statement_text Skip = codes "skip"
statement_text (At l) = codes "at " ++ l
statement_text (Goto l) = codes "goto " ++ l
statement_text (Branch l) = codes "branch " ++ l
statement_text (Call x callees arguments) = call_text x callees.items arguments.items
statement_text (Return y) = codes "return" ++ value_text y

-- the lines of the locals
abbrev pub locals_text : List (List ℕ) → List ℕ
locals_text locals = flat_map (λ x. codes "var " ++ x ++ codes "\n") locals

-- the lines of the statements
abbrev pub statements_text : List Statement → List ℕ
statements_text statements = flat_map (λ s. statement_text s ++ codes "\n") statements

-- the lines of a procedure
abbrev pub procedure_text : Procedure → List ℕ
procedure_text p =
    codes "proc " ++ p.name ++ names_text p.parameters.items ++ codes "\n"
    ++ locals_text p.locals.items ++ statements_text p.statements.items ++ codes "end\n"

-- the lines of the procedures
abbrev pub procedures_text : List Procedure → List ℕ
procedures_text procedures = flat_map procedure_text procedures

-- the lines of the globals
abbrev pub globals_text : List (List ℕ) → List ℕ
globals_text globals = flat_map (λ g. codes "global " ++ g ++ codes "\n") globals

-- the lines of a draft
abbrev pub draft_text : Draft → List ℕ
draft_text p = globals_text (draft_globals p) ++ procedures_text (draft_procedures p)

-- what stood there stands there still, before some more
abbrev pub Extends : List ℕ → List ℕ → Type 0
Extends old new = (rest : List ℕ) × (new ≡ old ++ rest)

-- a line, without its LF
abbrev pub line_text : Line → List ℕ
line_text (Global g) = codes "global " ++ g
line_text (Begin p parameters) = codes "proc " ++ p ++ names_text parameters.items
line_text (Local x) = codes "var " ++ x
line_text End = codes "end"
line_text (Step s) = statement_text s
