-- The values of programs: pure lists, without the room that vectors have for more.
use Rattle.std.specs.Prelude.{ℕ, List, Option, map}
use Rattle.ide_text.specs.declared.program.Draft.{Draft}
use Rattle.ide_text.specs.declared.program.Procedure.{Procedure}
use Rattle.ide_text.specs.declared.program.Statement.{Statement}
use Rattle.ide_text.specs.declared.program.Statement.TheVariants.{Assign, Skip, At, Goto, Branch, Call, Return}
use Rattle.ide_text.specs.Draft.{draft_globals, draft_procedures}

-- what a statement says: a call by its target, its callees and its arguments, any other one by itself, as it has no vectors
pub data StatementValue : Type 0 where
  calling : Option (List ℕ) → List (List ℕ) → List (List ℕ) → StatementValue
  other : Statement → StatementValue

-- the value of a statement
abbrev pub value_of_statement : Statement → StatementValue
value_of_statement (Call x callees arguments) = calling x callees.items arguments.items
value_of_statement (Assign x e) = other (Assign x e)
value_of_statement Skip = other Skip
value_of_statement (At l) = other (At l)
value_of_statement (Goto l) = other (Goto l)
value_of_statement (Branch l) = other (Branch l)
value_of_statement (Return y) = other (Return y)

-- what a procedure says
pub record ProcedureValue : Type 0 where
  pub name : List ℕ
  pub parameters : List (List ℕ)
  pub locals : List (List ℕ)
  pub statements : List StatementValue

-- the value of a procedure
abbrev pub value_of_procedure : Procedure → ProcedureValue
value_of_procedure p = record {
  name = p.name;
  parameters = p.parameters.items;
  locals = p.locals.items;
  statements = map value_of_statement p.statements.items;
}

-- what a program says
pub record ProgramValue : Type 0 where
  pub globals : List (List ℕ)
  pub procedures : List ProcedureValue

-- the value of a draft
abbrev pub draft_value : Draft → ProgramValue
draft_value p = record { globals = draft_globals p; procedures = map value_of_procedure (draft_procedures p) }
