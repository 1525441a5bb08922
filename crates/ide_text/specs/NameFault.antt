-- The faults of a draft's names: one is declared again, or is used and not declared, or a call lists what it may not.
use Rattle.std.specs.Prelude.{ℕ, ◌+◌, ◌<◌, ◌⊎◌, ◌≡◌, ◌≢◌, true, false, List, [], ◌∷◌, ◌++◌, None, Some, take, length, slice_get, sum_by, vec_len}
use Rattle.std.specs.List.{list_any, Contains}
use Rattle.std.specs.Option.{option_to_list}
use Rattle.ide_wire.specs.declared.refused.Fault.{Fault}
use Rattle.ide_wire.specs.declared.refused.Fault.TheVariants.{DeclaredTwice, NoSuchVariable, NoSuchLabel, NoSuchProcedure, WrongArguments, WrongCallees}
use Rattle.ide_text.specs.declared.program.Draft.{Draft}
use Rattle.ide_text.specs.declared.program.Procedure.{Procedure}
use Rattle.ide_text.specs.declared.program.Expression.{Expression}
use Rattle.ide_text.specs.declared.program.Expression.TheVariants.{Number, Copy, Sum, Difference, Unknown, Mix}
use Rattle.ide_text.specs.declared.program.Statement.{Statement}
use Rattle.ide_text.specs.declared.program.Statement.TheVariants.{Assign, Skip, At, Goto, Branch, Call, Return}
use Rattle.ide_text.specs.First.{IsFirst}
use Rattle.ide_text.specs.Names.{is_among, IsRepeated, is_label, is_named, first_named}
use Rattle.ide_text.specs.Draft.{draft_globals, draft_procedures, lines_of_procedure}

-- the variables that an expression uses
abbrev pub variables_of : Expression → List (List ℕ)
variables_of (Number n) = []
variables_of (Copy y) = y ∷ []
variables_of (Sum y n) = y ∷ []
variables_of (Difference y n) = y ∷ []
variables_of Unknown = []
variables_of (Mix y z) = y ∷ z ∷ []

-- the variables that a statement uses
abbrev pub variables_used : Statement → List (List ℕ)
variables_used (Assign x e) = x ∷ variables_of e
variables_used Skip = []
variables_used (At l) = []
variables_used (Goto l) = []
variables_used (Branch l) = []
variables_used (Call x callees arguments) = option_to_list x ++ arguments.items
variables_used (Return y) = option_to_list y

-- the labels that a statement goes to
abbrev pub labels_used : Statement → List (List ℕ)
labels_used (Goto l) = l ∷ []
labels_used (Branch l) = l ∷ []
labels_used (Assign x e) = []
labels_used Skip = []
labels_used (At l) = []
labels_used (Call x callees arguments) = []
labels_used (Return y) = []

-- the procedures that a statement calls
abbrev pub callees_of : Statement → List (List ℕ)
callees_of (Call x callees arguments) = callees.items
callees_of (Assign x e) = []
callees_of Skip = []
callees_of (At l) = []
callees_of (Goto l) = []
callees_of (Branch l) = []
callees_of (Return y) = []

-- how many arguments a statement passes
abbrev pub arguments_passed : Statement → ℕ
arguments_passed (Call x callees arguments) = vec_len arguments
arguments_passed (Assign x e) = 0
arguments_passed Skip = 0
arguments_passed (At l) = 0
arguments_passed (Goto l) = 0
arguments_passed (Branch l) = 0
arguments_passed (Return y) = 0

-- a call may not list these callees: they are more than eight, or one stands among those before it
abbrev pub AreWrongCallees : List (List ℕ) → Type 0
AreWrongCallees callees = (8 < length callees) ⊎ ((k : ℕ) × IsRepeated [] callees k)

-- a fault of the statement s: the variables and the procedures that are declared, the statements before s, and all statements of its procedure
pub data StatementFault (variables : List (List ℕ)) (procedures : List Procedure) (before statements : List Statement) (s : Statement) : Fault → Type 0 where
  -- it declares a label that one before it declares
  Label_again : (l : List ℕ) → s ≡ At l → is_label before l ≡ true → StatementFault variables procedures before statements s DeclaredTwice
  -- it uses a variable that is not declared
  No_variable : (x : List ℕ) → Contains (variables_used s) x → is_among variables x ≡ false → StatementFault variables procedures before statements s NoSuchVariable
  -- it goes to a label that no statement declares
  No_label : (l : List ℕ) → Contains (labels_used s) l → is_label statements l ≡ false → StatementFault variables procedures before statements s NoSuchLabel
  -- it calls what is no procedure
  No_procedure : (c : List ℕ) → Contains (callees_of s) c → first_named procedures c ≡ None → StatementFault variables procedures before statements s NoSuchProcedure
  -- it calls a procedure, whose first declaration has another count of parameters
  Wrong_count : (c : List ℕ) (q : Procedure) → Contains (callees_of s) c → first_named procedures c ≡ Some q → vec_len q.parameters ≢ arguments_passed s → StatementFault variables procedures before statements s WrongArguments
  -- it calls procedures that it may not list
  Wrong_list : AreWrongCallees (callees_of s) → StatementFault variables procedures before statements s WrongCallees

-- a fault of one of the statements, the first of which has that line
pub record StatementsFault (variables : List (List ℕ)) (procedures : List Procedure) (statements : List Statement) (start line : ℕ) (fault : Fault) : Type 0 where
  pub place : ℕ
  pub statement : Statement
  pub found : slice_get statements place ≡ Some statement
  pub on_line : line ≡ start + place
  pub faulty : StatementFault variables procedures (take place statements) statements statement fault

-- the variables of a procedure, where these are the globals: they, its parameters and its locals
abbrev pub variables_in : List (List ℕ) → Procedure → List (List ℕ)
variables_in globals q = globals ++ q.parameters.items ++ q.locals.items

-- a fault of a procedure but of its own name: the globals and the procedures that are declared, and the number of its `proc` line
pub data ProcedureFault (globals : List (List ℕ)) (procedures : List Procedure) (q : Procedure) (start : ℕ) : ℕ → Fault → Type 0 where
  -- a parameter is a global, or a parameter before it
  Parameter_again : (k : ℕ) → IsRepeated globals q.parameters.items k → ProcedureFault globals procedures q start start DeclaredTwice
  -- a local is a global, a parameter, or a local before it
  Local_again : (k : ℕ) → IsRepeated (globals ++ q.parameters.items) q.locals.items k → ProcedureFault globals procedures q start (start + 1 + k) DeclaredTwice
  -- a statement has a fault
  In_statement : (line : ℕ) (fault : Fault) → StatementsFault (variables_in globals q) procedures q.statements.items (start + 1 + vec_len q.locals) line fault → ProcedureFault globals procedures q start line fault

-- the line of the j-th procedure's `proc`
abbrev pub line_of_procedure : Draft → ℕ → ℕ
line_of_procedure p j = 1 + length (draft_globals p) + sum_by lines_of_procedure (take j (draft_procedures p))

-- a fault of a draft's names, on that line
pub data NameFault (p : Draft) : ℕ → Fault → Type 0 where
  -- a global stands among those before it
  Global_again : (i : ℕ) → IsRepeated [] (draft_globals p) i → NameFault p (i + 1) DeclaredTwice
  -- a procedure before has the name
  Procedure_again : (j : ℕ) (q : Procedure) → slice_get (draft_procedures p) j ≡ Some q → list_any (is_named q.name) (take j (draft_procedures p)) ≡ true → NameFault p (line_of_procedure p j) DeclaredTwice
  -- a procedure has another fault
  In_procedure : (j : ℕ) (q : Procedure) → slice_get (draft_procedures p) j ≡ Some q → (line : ℕ) (fault : Fault) → ProcedureFault (draft_globals p) (draft_procedures p) q (line_of_procedure p j) line fault → NameFault p line fault

-- the first fault of the names
abbrev pub IsFirstNameFault : Draft → ℕ → Fault → Type 0
IsFirstNameFault p line fault = IsFirst (NameFault p) line fault

-- the names have no fault
abbrev pub IsWellNamed : Draft → Type 0
IsWellNamed p = (line : ℕ) (fault : Fault) → ¬ NameFault p line fault
