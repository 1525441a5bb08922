-- Lines on which no fault of some statements, of a procedure or of a program stands, and the first that has one.
use Rattle.std.proofs.Common.{◌≡◌, ℕ, ◌+◌, ◌<◌, ◌≤◌, List, ◌++◌, length, take, slice_get, Option, Some, Result, Ok, Err, vec_len, inl, inr, ◌∙◌, ap, subst, arith}
use Rattle.std.proofs.lemmas.Bool.{cases_eq}
use Rattle.std.proofs.lemmas.Option.{slice_get_within}
use Rattle.ide_wire.specs.declared.refused.Fault.{Fault}
use Rattle.ide_wire.specs.declared.refused.Fault.TheVariants.{DeclaredTwice}
use Rattle.ide_wire.specs.declared.refused.Refused.{Refused}
use Rattle.ide_wire.specs.declared.refused.Refused.TheVariants.{NoMemory, Text}
use Rattle.ide_text.specs.declared.program.Procedure.{Procedure}
use Rattle.ide_text.specs.declared.program.Statement.{Statement}
use Rattle.ide_text.specs.Names.{IsRepeated}
use Rattle.ide_text.specs.First.{IsLeast, IsFirst, TellsFirst, Checked, number_of}
use Rattle.ide_text.specs.NameFault.{StatementFault, StatementsFault, ProcedureFault, Parameter_again, Local_again, In_statement, variables_in}
use Rattle.ide_text.specs.Draft.{lines_of_procedure}
use Rattle.ide_text.proofs.StatementLemmas.{number_from}

-- none of these faults stands on a line below that one
abbrev pub NoneBelow : (ℕ → Fault → Type 0) → ℕ → Type 0
NoneBelow faults line = (l : ℕ) (f : Fault) → faults l f → line ≤ l

pub some_same : {X : Type 0} (o : Option X) (x y : X) → o ≡ Some x → o ≡ Some y → x ≡ y
some_same o x y e f = cc

module _ (variables : List (List ℕ)) (procedures : List Procedure) (statements : List Statement) (start : ℕ) where
  abbrev InStatements : ℕ → Fault → Type 0
  InStatements = StatementsFault variables procedures statements start

  abbrev OfStatement : ℕ → Statement → Fault → Type 0
  OfStatement k s = StatementFault variables procedures (take k statements) statements s

  -- a fault on a line is one of the statement that stands there
  of_statement : (k : ℕ) (s : Statement) (l : ℕ) (f : Fault) → slice_get statements k ≡ Some s → l ≡ start + k → InStatements l f → OfStatement k s f
  of_statement k s l f at on r =
      let place : r.place ≡ k = let e : l ≡ start + r.place = r.on_line in omega arith in
      let same : r.statement ≡ s = some_same (slice_get statements r.place) r.statement s r.found (ap (slice_get statements) place ∙ at) in
      subst (λ (j : ℕ). OfStatement j s f) place (subst (λ (t : Statement). OfStatement r.place t f) same r.faulty)

  -- one more statement has none
  pub statements_more : (k : ℕ) (s : Statement) → slice_get statements k ≡ Some s → ((f : Fault) → ¬ OfStatement k s f) → NoneBelow InStatements (start + k) → NoneBelow InStatements (start + (k + 1))
  statements_more k s at none before l f r = elim (cases_eq l (start + k)) [
    | inl same ↦ absurd (none f (of_statement k s l f at same r))
    | inr other ↦ let least : start + k ≤ l = before l f r in omega arith
  ]

  -- this statement has the first
  pub statements_first : (k : ℕ) (s : Statement) (line : ℕ) (f : Fault) → slice_get statements k ≡ Some s → line ≡ start + k → IsLeast (OfStatement k s) f → NoneBelow InStatements (start + k) → IsFirst InStatements line f
  statements_first k s line f at on least before = record {
    found = record { place = k; statement = s; found = at; on_line = on; faulty = least.found };
    least_line = λ l g r. let below : start + k ≤ l = before l g r in omega arith;
    least_number = λ g r. least.least_number g (of_statement k s line g at on r);
  }

  -- and none comes after the last
  pub statements_none : (n : ℕ) → n ≡ length statements → NoneBelow InStatements (start + n) → (l : ℕ) (f : Fault) → ¬ InStatements l f
  statements_none n all before l f r =
      let within : r.place < length statements = slice_get_within statements r.place r.statement r.found in
      let below : start + n ≤ l = before l f r in
      let e : l ≡ start + r.place = r.on_line in
      omega arith

module _ (globals : List (List ℕ)) (procedures : List Procedure) (q : Procedure) (start : ℕ) where
  abbrev InProcedure : ℕ → Fault → Type 0
  InProcedure = ProcedureFault globals procedures q start

  -- the faults of the statements
  abbrev InBody : ℕ → Fault → Type 0
  InBody = StatementsFault (variables_in globals q) procedures q.statements.items (start + 1 + vec_len q.locals)

  -- a declaration has the least number that there is
  pub procedure_number : (l : ℕ) (f : Fault) → InProcedure l f → 5 ≤ number_of f
  procedure_number l f fault = elim fault as (λ m g _. 5 ≤ number_of g) [
    | Parameter_again k r ↦ omega arith
    | Local_again k r ↦ omega arith
    | In_statement m g r ↦
        number_from (variables_in globals q) procedures (take r.place q.statements.items) q.statements.items r.statement 5
        (λ more. absurd (omega arith)) (λ more. absurd (omega arith)) (λ more. absurd (omega arith)) (λ more. absurd (omega arith)) (λ more. absurd (omega arith)) (λ more. absurd (omega arith)) g r.faulty
  ]

  -- the faults stand on the procedure's lines
  pub procedure_lines : (l : ℕ) (f : Fault) → InProcedure l f → (start ≤ l) × (l < start + lines_of_procedure q)
  procedure_lines l f fault = elim fault as (λ m g _. (start ≤ m) × (m < start + lines_of_procedure q)) [
    | Parameter_again k r ↦ (omega arith, omega arith)
    | Local_again k r ↦ let within : k < vec_len q.locals = omega (arith, r.within, q.locals.ok) in (omega arith, omega arith)
    | In_statement m g r ↦
        let inside : r.place < length q.statements.items = slice_get_within q.statements.items r.place r.statement r.found in
        let within : r.place < vec_len q.statements = omega (arith, q.statements.ok) in
        let on : m ≡ start + 1 + vec_len q.locals + r.place = r.on_line in
        (omega arith, omega arith)
  ]

  -- a parameter is repeated
  pub parameter_first : (k : ℕ) → IsRepeated globals q.parameters.items k → IsFirst InProcedure start DeclaredTwice
  parameter_first k again = record {
    found = Parameter_again k again;
    least_line = λ l f fault. (procedure_lines l f fault).0;
    least_number = procedure_number start;
  }

  module _ (parameters : (k : ℕ) → ¬ IsRepeated globals q.parameters.items k) where
    -- a local is repeated
    pub local_first : (k : ℕ) → IsRepeated (globals ++ q.parameters.items) q.locals.items k → ((j : ℕ) → IsRepeated (globals ++ q.parameters.items) q.locals.items j → k ≤ j) → IsFirst InProcedure (start + 1 + k) DeclaredTwice
    local_first k again before = record {
      found = Local_again k again;
      least_line = λ l f fault. elim fault as (λ m g _. start + 1 + k ≤ m) [
        | Parameter_again j r ↦ absurd (parameters j r)
        | Local_again j r ↦ let least : k ≤ j = before j r in omega arith
        | In_statement m g r ↦
            let within : k < vec_len q.locals = omega (arith, again.within, q.locals.ok) in
            let on : m ≡ start + 1 + vec_len q.locals + r.place = r.on_line in
            omega arith
      ];
      least_number = procedure_number (start + 1 + k);
    }

    module _ (locals : (k : ℕ) → ¬ IsRepeated (globals ++ q.parameters.items) q.locals.items k) where
      in_body : (l : ℕ) (f : Fault) → InProcedure l f → InBody l f
      in_body l f fault = elim fault as (λ m g _. InBody m g) [
        | Parameter_again k r ↦ absurd (parameters k r)
        | Local_again k r ↦ absurd (locals k r)
        | In_statement m g r ↦ r
      ]

      body_told : (r : Refused) → TellsFirst InBody r → TellsFirst InProcedure r
      body_told NoMemory told = tt
      body_told (Text line fault) told = record {
        found = In_statement line fault told.found;
        least_line = λ l f h. told.least_line l f (in_body l f h);
        least_number = λ f h. told.least_number f (in_body line f h);
      }
      body_told _ told = told

      -- what was found in the statements is the first of the procedure
      pub body_checked : (r : Result (Unit {0}) Refused) → Checked InBody r → Checked InProcedure r
      body_checked (Ok _) none = λ l f fault. none l f (in_body l f fault)
      body_checked (Err refused) told = body_told refused told
