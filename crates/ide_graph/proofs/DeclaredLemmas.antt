-- What a program without a fault of names declares: all that its statements use.
use Rattle.std.proofs.Common.{◌≡◌, ℕ, ◌+◌, Bool, true, false, List, ◌∷◌, ◌++◌, Option, None, Some, ◌||◌, inl, inr, take, refl, ap, ◌∙◌, codes}
use Rattle.std.specs.Prelude.{slice_get, vec_len}
use Rattle.std.specs.List.{Contains, list_any}
use Rattle.std.specs.Option.{option_map}
use Rattle.std.proofs.lemmas.Bool.{cases_eq}
use Rattle.std.proofs.lemmas.List.Folds.{list_any-append}
use Rattle.ide_wire.specs.declared.refused.Fault.{Fault}
use Rattle.ide_wire.specs.declared.refused.Fault.TheVariants.{NoSuchVariable, NoSuchLabel, NoSuchProcedure, WrongArguments}
use Rattle.ide_text.specs.declared.program.Procedure.{Procedure}
use Rattle.ide_text.specs.declared.program.Program.{Program}
use Rattle.ide_text.specs.declared.program.Statement.{Statement}
use Rattle.ide_text.specs.NameFault.{StatementFault, No_variable, No_label, No_procedure, Wrong_count, In_statement, In_procedure, variables_used, labels_used, callees_of, arguments_passed, variables_in, line_of_procedure}
use Rattle.ide_text.specs.Names.{declares, is_among, is_label}
use Rattle.ide_text.specs.Program.{globals_of, procedures_of}
use Rattle.ide_graph.specs.Building.{AllHaveFacts}
use Rattle.std.specs.Str.{bytes_eq}
use Rattle.ide_graph.specs.ProgramEdges.{HasFact}
use Rattle.ide_graph.specs.Numbers.{label_from, procedure_of, names_at}
use Rattle.ide_graph.proofs.FoundLemmas.{found, find-none, find-position}

-- more names do not hide one
any_more : (z g r o l : Bool) → ((g || o) || l) ≡ true → (((z || g) || (r || o)) || l) ≡ true
any_more true g r o l h = refl
any_more false true r o l h = refl
any_more false false true o l h = refl
any_more false false false o l h = h

among_more : (test : List ℕ → Bool) (zero_name result_name : List ℕ) (globals parameters locals : List (List ℕ)) → list_any test (globals ++ parameters ++ locals) ≡ true → list_any test ((zero_name ∷ globals) ++ (result_name ∷ parameters) ++ locals) ≡ true
among_more test z r globals parameters locals h =
    simp (list_any-append test) (any_more (test z) (list_any test globals) (test r) (list_any test parameters) (list_any test locals) (simp (list_any-append test) at h))

module _ (p : Program) (index : ℕ) (q : Procedure) (owner : slice_get (procedures_of p) index ≡ Some q) (place : ℕ) (s : Statement) (at : slice_get q.statements.items place ≡ Some s) where
  no_fault : (f : Fault) → StatementFault (variables_in (globals_of p) q) (procedures_of p) (take place q.statements.items) q.statements.items s f → ⊥
  no_fault f bad =
      let line : ℕ = line_of_procedure p.draft index + 1 + vec_len q.locals + place in
      p.named line f (In_procedure index q owner line f (In_statement line f (record { place = place; statement = s; found = at; on_line = refl; faulty = bad })))

  -- each variable that the statement uses has a fact
  pub variables_known : AllHaveFacts p q (variables_used s)
  variables_known x used = by (is_among (variables_in (globals_of p) q) x) refl
    where
      by : (b : Bool) → is_among (variables_in (globals_of p) q) x ≡ b → (fact : ℕ) × HasFact p q x fact
      by true e = found (bytes_eq x) (names_at (globals_of p) q) (among_more (bytes_eq x) (codes "@zero") (codes "@result") (globals_of p) q.parameters.items q.locals.items e)
      by false e = absurd (no_fault NoSuchVariable (No_variable x used e))

  -- each label that it goes to has a node
  pub label_known : (begin : ℕ) (l : List ℕ) → Contains (labels_used s) l → (node : ℕ) × (label_from begin q l ≡ Some node)
  label_known begin l used = by (is_label q.statements.items l) refl
    where
      by : (b : Bool) → is_label q.statements.items l ≡ b → (node : ℕ) × (label_from begin q l ≡ Some node)
      by true e = let r = found (declares l) q.statements.items e in (_, ap (option_map _) r.1)
      by false e = absurd (no_fault NoSuchLabel (No_label l used e))

  -- each procedure that it calls has as many parameters as it passes arguments
  pub counts_agree : (name : List ℕ) (callee : ℕ) (r : Procedure) → Contains (callees_of s) name → procedure_of (procedures_of p) name ≡ Some callee → slice_get (procedures_of p) callee ≡ Some r → vec_len r.parameters ≡ arguments_passed s
  counts_agree name callee r used first there =
      elim (cases_eq (vec_len r.parameters) (arguments_passed s)) [
        | inl same ↦ same
        | inr apart ↦ absurd (no_fault WrongArguments (Wrong_count name r used (find-position _ (procedures_of p) callee first ∙ there) apart))
      ]

  -- each procedure that it calls is declared
  pub procedure_known : (name : List ℕ) → Contains (callees_of s) name → (callee : ℕ) × (procedure_of (procedures_of p) name ≡ Some callee)
  procedure_known name used = by (procedure_of (procedures_of p) name) refl
    where
      by : (o : Option ℕ) → procedure_of (procedures_of p) name ≡ o → (callee : ℕ) × (procedure_of (procedures_of p) name ≡ Some callee)
      by (Some callee) e = (callee, e)
      by None e = absurd (no_fault NoSuchProcedure (No_procedure name used (find-none _ (procedures_of p) e)))
