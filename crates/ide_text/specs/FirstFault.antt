-- The first fault of the lines of a text. Lists of lines have the latest line first.
use Rattle.std.specs.Prelude.{ℕ, ◌+◌, ◌≤◌, ◌≡◌, ◌≢◌, ◌⊎◌, max, Bool, true, false, List, [], ◌∷◌, ◌++◌, codes, length, vec_len, sum_by, count_by}
use Rattle.std.specs.List.{AllByRecursion}
use Rattle.ide_wire.specs.declared.refused.Fault.{Fault}
use Rattle.ide_wire.specs.declared.refused.Fault.TheVariants.{NoSuchLine, OutOfPlace, TooMany}
use Rattle.ide_text.specs.declared.line.Line.{Line}
use Rattle.ide_text.specs.declared.line.Line.TheVariants.{Global, Procedure as Begin, Local, End, Statement as Step}
use Rattle.ide_text.specs.declared.program.Statement.TheVariants.{Call}
use Rattle.ide_text.specs.Grammar.{IsLine}
use Rattle.ide_text.specs.Text.{line_text}

-- the text of lines, each with its LF
abbrev pub lines_text : List Line → List ℕ
lines_text [] = []
lines_text (l ∷ before) = lines_text before ++ line_text l ++ codes "\n"

-- no procedure has begun
abbrev pub StandsAtGlobals : List Line → Type 0
StandsAtGlobals [] = Unit {0}
StandsAtGlobals (Global g ∷ before) = Unit {0}
StandsAtGlobals _ = ⊥

-- each procedure that has begun has ended
abbrev pub StandsOutside : List Line → Type 0
StandsOutside [] = Unit {0}
StandsOutside (Global g ∷ before) = Unit {0}
StandsOutside (End ∷ before) = Unit {0}
StandsOutside _ = ⊥

-- a procedure has begun, and has no statement yet
abbrev pub StandsAtVariables : List Line → Type 0
StandsAtVariables (Begin p parameters ∷ before) = Unit {0}
StandsAtVariables (Local x ∷ before) = Unit {0}
StandsAtVariables _ = ⊥

-- a procedure has begun, and has not ended
abbrev pub StandsInside : List Line → Type 0
StandsInside (Begin p parameters ∷ before) = Unit {0}
StandsInside (Local x ∷ before) = Unit {0}
StandsInside (Step s ∷ before) = Unit {0}
StandsInside _ = ⊥

-- a line of that kind may stand after those lines
abbrev pub MayFollow : List Line → Line → Type 0
MayFollow before (Global g) = StandsAtGlobals before
MayFollow before (Begin p parameters) = StandsOutside before
MayFollow before (Local x) = StandsAtVariables before
MayFollow before (Step s) = StandsInside before
MayFollow before End = StandsInside before

-- a text may end after those lines: a procedure has just ended
abbrev pub MayEnd : List Line → Type 0
MayEnd (End ∷ before) = Unit {0}
MayEnd _ = ⊥

-- a `global` line
abbrev pub is_global : Line → Bool
is_global (Global g) = true
is_global _ = false

-- a `proc` line
abbrev pub begins_procedure : Line → Bool
begins_procedure (Begin p parameters) = true
begins_procedure _ = false

-- how many parameters a line has
abbrev pub parameters_on : Line → ℕ
parameters_on (Begin p parameters) = vec_len parameters
parameters_on _ = 0

-- how many nodes a line adds: a procedure its start and its exit, a call two, any other statement one
abbrev pub nodes_on : Line → ℕ
nodes_on (Begin p parameters) = 2
nodes_on (Step (Call x callees arguments)) = 2
nodes_on (Step _) = 1
nodes_on _ = 0

-- how many parameters and locals the latest procedure has
abbrev pub last_variables : List Line → ℕ
last_variables [] = 0
last_variables (Begin p parameters ∷ before) = vec_len parameters
last_variables (Local x ∷ before) = last_variables before + 1
last_variables (_ ∷ before) = last_variables before

-- how many parameters and locals a procedure has at most
abbrev pub most_variables : List Line → ℕ
most_variables [] = 0
most_variables (l ∷ before) = max (most_variables before) (last_variables (l ∷ before))

-- the lines are within the limits. The zero fact and that of returned values count too
pub record Fits (lines : List Line) : Type 0 where
  pub procedures : count_by begins_procedure lines ≤ 1000
  pub parameters : AllByRecursion (λ l. parameters_on l ≤ 16) lines
  pub nodes : sum_by nodes_on lines ≤ 65536
  pub facts : 2 + count_by is_global lines + most_variables lines ≤ 4096

-- each line is of the grammar, may follow those before it, and is within the limits with them
abbrev pub AreTaken : List Line → Type 0
AreTaken [] = Unit {0}
AreTaken (l ∷ before) = AreTaken before × IsLine l × MayFollow before l × Fits (l ∷ before)

-- no line of the grammar with its LF stands in front
abbrev pub BeginsNoLine : List ℕ → Type 0
BeginsNoLine text = (l : Line) (rest : List ℕ) → IsLine l → text ≢ line_text l ++ codes "\n" ++ rest

-- after those lines a line of the grammar comes of which P holds
abbrev pub GoesOnBy : List ℕ → List Line → (Line → Type 0) → Type 0
GoesOnBy text before P = (l : Line) × (rest : List ℕ) × (text ≡ lines_text (l ∷ before) ++ rest) × IsLine l × P l

-- after those lines the text has that fault: what stands there is no line; the line may not stand there, or the text
-- may not end there; with the line there is too much of something
abbrev pub FaultAfter : List ℕ → List Line → Fault → Type 0
FaultAfter text before NoSuchLine = (rest : List ℕ) × (text ≡ lines_text before ++ rest) × (rest ≢ []) × BeginsNoLine rest
FaultAfter text before OutOfPlace = GoesOnBy text before (λ l. ¬ (MayFollow before l)) ⊎ ((text ≡ lines_text before) × ¬ (MayEnd before))
FaultAfter text before TooMany = GoesOnBy text before (λ l. MayFollow before l × ¬ (Fits (l ∷ before)))
FaultAfter text before _ = ⊥

-- the least line of the text that has a fault of F2 to F4, and the least of these that it has
pub record FirstFault (text : List ℕ) (line : ℕ) (fault : Fault) : Type 0 where
  pub before : List Line
  pub taken : AreTaken before
  pub at : line ≡ length before + 1
  pub has : FaultAfter text before fault

-- the fault that keeps a line from being taken after those
abbrev pub KeepsOut : List Line → Line → Fault → Type 0
KeepsOut before l OutOfPlace = ¬ (MayFollow before l)
KeepsOut before l TooMany = MayFollow before l × ¬ (Fits (l ∷ before))
KeepsOut before l _ = ⊥
