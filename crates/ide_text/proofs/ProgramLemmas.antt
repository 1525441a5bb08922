-- Lines of a program on which no fault of its names stands, and the first that has one.
use Rattle.std.proofs.Common.{◌≡◌, ℕ, suc, zero, ◌+◌, ◌<◌, ◌≤◌, List, [], ◌∷◌, length, take, get_or, slice_get, Some, Result, Ok, Err, IfErr, sum_by, ◌⊎◌, inl, inr, ◌∙◌, ap, subst, refl, arith, true}
use Rattle.std.specs.List.{list_any}
use Rattle.std.proofs.lemmas.Bool.{cases_lt}
use Rattle.std.proofs.lemmas.List.{take_all}
use Rattle.std.proofs.lemmas.Option.{slice_get_within, get_or_from_slice_get}
use Rattle.std.proofs.lemmas.List.Sums.{sum_by-cons, sum_by-take-le, sum_by_more}
use Rattle.ide_wire.specs.declared.refused.Fault.{Fault}
use Rattle.ide_wire.specs.declared.refused.Fault.TheVariants.{DeclaredTwice}
use Rattle.ide_wire.specs.declared.refused.Refused.{Refused}
use Rattle.ide_wire.specs.declared.refused.Refused.TheVariants.{NoMemory, Text}
use Rattle.ide_text.specs.declared.program.Draft.{Draft}
use Rattle.ide_text.specs.declared.program.Procedure.{Procedure}
use Rattle.ide_text.specs.Names.{IsRepeated, is_named}
use Rattle.ide_text.specs.First.{IsFirst, TellsFirst, Checked, number_of}
use Rattle.ide_text.specs.NameFault.{ProcedureFault, NameFault, Global_again, Procedure_again, In_procedure, line_of_procedure}
use Rattle.ide_text.specs.Draft.{draft_globals, draft_procedures, draft_line_count, lines_of_procedure}
use Rattle.ide_text.specs.Refusal.{IsTextRefusal}
use Rattle.ide_text.proofs.LineLemmas.{NoneBelow, some_same, procedure_lines, procedure_number}

-- what stands before a later element, with it
sum_before : {X : Type 0} (f : X → ℕ) (xs : List X) (j k : ℕ) (x : X) → slice_get xs j ≡ Some x → j < k → sum_by f (take j xs) + f x ≤ sum_by f (take k xs)
sum_before f [] j k x at less = cc
sum_before f (y ∷ ys) zero zero x at less = absurd (omega arith)
sum_before f (y ∷ ys) (suc j) zero x at less = absurd (omega arith)
sum_before f (y ∷ ys) zero (suc k) x at less =
    let same : f y ≡ f x = ap f (some_same (Some y) y x refl at) in
    let whole : sum_by f (y ∷ take k ys) ≡ f y + sum_by f (take k ys) = sum_by-cons f y (take k ys) in
    omega arith
sum_before f (y ∷ ys) (suc j) (suc k) x at less =
    let rest : sum_by f (take j ys) + f x ≤ sum_by f (take k ys) = sum_before f ys j k x at (omega arith) in
    let before : sum_by f (y ∷ take j ys) ≡ f y + sum_by f (take j ys) = sum_by-cons f y (take j ys) in
    let whole : sum_by f (y ∷ take k ys) ≡ f y + sum_by f (take k ys) = sum_by-cons f y (take k ys) in
    omega arith

module _ (p : Draft) where
  -- the faults of the j-th procedure, but of its name
  abbrev pub InThe : ℕ → Procedure → ℕ → Fault → Type 0
  InThe j q = ProcedureFault (draft_globals p) (draft_procedures p) q (line_of_procedure p j)

  abbrev pub IsThe : ℕ → Procedure → Type 0
  IsThe j q = slice_get (draft_procedures p) j ≡ Some q

  abbrev pub IsNamedAgain : ℕ → Procedure → Type 0
  IsNamedAgain j q = list_any (is_named q.name) (take j (draft_procedures p)) ≡ true

  -- the lines of a procedure come before those of the later ones
  line_before : (j k : ℕ) (q : Procedure) → IsThe j q → j < k → line_of_procedure p j + lines_of_procedure q ≤ line_of_procedure p k
  line_before j k q at less =
      let sums : sum_by lines_of_procedure (take j (draft_procedures p)) + lines_of_procedure q ≤ sum_by lines_of_procedure (take k (draft_procedures p)) = sum_before lines_of_procedure (draft_procedures p) j k q at less in
      omega arith

  -- the next procedure's follow at once
  pub next_line : (j : ℕ) (q : Procedure) → IsThe j q → line_of_procedure p (j + 1) ≡ line_of_procedure p j + lines_of_procedure q
  next_line j q at =
      let inside : j < length (draft_procedures p) = slice_get_within (draft_procedures p) j q at in
      let more : sum_by lines_of_procedure (take (j + 1) (draft_procedures p)) ≡ sum_by lines_of_procedure (take j (draft_procedures p)) + lines_of_procedure (get_or (draft_procedures p) j q) = sum_by_more lines_of_procedure (draft_procedures p) j q inside in
      let same : lines_of_procedure (get_or (draft_procedures p) j q) ≡ lines_of_procedure q = ap (λ (r : Procedure). lines_of_procedure r) (get_or_from_slice_get (draft_procedures p) j q q at) in
      omega arith

  -- a line belongs to one procedure
  one_place : (j k : ℕ) (q r : Procedure) (l : ℕ) → IsThe j q → IsThe k r → line_of_procedure p j ≤ l → l < line_of_procedure p j + lines_of_procedure q → line_of_procedure p k ≤ l → l < line_of_procedure p k + lines_of_procedure r → k ≡ j
  one_place j k q r l at_j at_k low_j high_j low_k high_k = elim (cases_lt k j) [
    | inl less ↦ let before = line_before k j r at_k less in absurd (omega arith)
    | inr least ↦ elim (cases_lt j k) [
      | inl more ↦ let before = line_before j k q at_j more in absurd (omega arith)
      | inr most ↦ omega arith
    ]
  ]

  moved_name : (j k : ℕ) (q r : Procedure) → IsThe j q → IsThe k r → k ≡ j → IsNamedAgain k r → IsNamedAgain j q
  moved_name j k q r at_j at_k same again =
      let one : r ≡ q = some_same (slice_get (draft_procedures p) k) r q at_k (ap (slice_get (draft_procedures p)) same ∙ at_j) in
      subst (λ (i : ℕ). IsNamedAgain i q) same (subst (λ (t : Procedure). IsNamedAgain k t) one again)

  moved_fault : (j k : ℕ) (q r : Procedure) (l : ℕ) (f : Fault) → IsThe j q → IsThe k r → k ≡ j → InThe k r l f → InThe j q l f
  moved_fault j k q r l f at_j at_k same fault =
      let one : r ≡ q = some_same (slice_get (draft_procedures p) k) r q at_k (ap (slice_get (draft_procedures p)) same ∙ at_j) in
      subst (λ (i : ℕ). InThe i q l f) same (subst (λ (t : Procedure). InThe k t l f) one fault)

  -- a fault on a procedure's lines is of its name, or another of it
  at_procedure : (j : ℕ) (q : Procedure) → IsThe j q → (l : ℕ) (f : Fault) → NameFault p l f → line_of_procedure p j ≤ l → l < line_of_procedure p j + lines_of_procedure q → IsNamedAgain j q ⊎ InThe j q l f
  at_procedure j q at l f fault = elim fault as (λ m g _. line_of_procedure p j ≤ m → m < line_of_procedure p j + lines_of_procedure q → IsNamedAgain j q ⊎ InThe j q m g) [
    | Global_again i r ↦ λ low high. let within : i < length (draft_globals p) = r.within in absurd (omega arith)
    | Procedure_again k r at_k again ↦ λ low high.
        inl (moved_name j k q r at at_k (one_place j k q r (line_of_procedure p k) at at_k low high (omega arith) (omega arith)) again)
    | In_procedure k r at_k m g inner ↦ λ low high.
        let lines = procedure_lines (draft_globals p) (draft_procedures p) r (line_of_procedure p k) m g inner in
        inr (moved_fault j k q r m g at at_k (one_place j k q r m at at_k low high lines.0 lines.1) inner)
  ]

  -- a name that is declared again has the least number that there is
  name_number : (l : ℕ) (f : Fault) → NameFault p l f → 5 ≤ number_of f
  name_number l f fault = elim fault as (λ m g _. 5 ≤ number_of g) [
    | Global_again i r ↦ omega arith
    | Procedure_again k r at_k again ↦ omega arith
    | In_procedure k r at_k m g inner ↦ procedure_number (draft_globals p) (draft_procedures p) r (line_of_procedure p k) m g inner
  ]

  -- each procedure's lines are among the program's
  within_lines : (k : ℕ) (r : Procedure) → IsThe k r → line_of_procedure p k + lines_of_procedure r ≤ draft_line_count p + 1
  within_lines k r at =
      let sums : sum_by lines_of_procedure (take k (draft_procedures p)) + lines_of_procedure r ≤ sum_by lines_of_procedure (take (k + 1) (draft_procedures p)) = sum_before lines_of_procedure (draft_procedures p) k (k + 1) r at (omega arith) in
      let whole : sum_by lines_of_procedure (take (k + 1) (draft_procedures p)) ≤ sum_by lines_of_procedure (draft_procedures p) = sum_by-take-le lines_of_procedure (draft_procedures p) (k + 1) in
      omega arith

  -- each fault stands on a line of the program
  pub name_line : (l : ℕ) (f : Fault) → NameFault p l f → (1 ≤ l) × (l ≤ draft_line_count p)
  name_line l f fault = elim fault as (λ m g _. (1 ≤ m) × (m ≤ draft_line_count p)) [
    | Global_again i r ↦ let within : i < length (draft_globals p) = r.within in (omega arith, omega arith)
    | Procedure_again k r at_k again ↦ let whole = within_lines k r at_k in (omega arith, omega arith)
    | In_procedure k r at_k m g inner ↦
        let whole = within_lines k r at_k in
        let lines = procedure_lines (draft_globals p) (draft_procedures p) r (line_of_procedure p k) m g inner in
        (omega arith, omega arith)
  ]

  -- a global is repeated
  pub global_first : (k : ℕ) → IsRepeated [] (draft_globals p) k → ((j : ℕ) → IsRepeated [] (draft_globals p) j → k ≤ j) → IsFirst (NameFault p) (k + 1) DeclaredTwice
  global_first k again before = record {
    found = Global_again k again;
    least_line = λ l f fault. elim fault as (λ m g _. k + 1 ≤ m) [
      | Global_again j r ↦ let least : k ≤ j = before j r in omega arith
      | Procedure_again j r at_j twice ↦ let within : k < length (draft_globals p) = again.within in omega arith
      | In_procedure j r at_j m g inner ↦
          let within : k < length (draft_globals p) = again.within in
          let lines = procedure_lines (draft_globals p) (draft_procedures p) r (line_of_procedure p j) m g inner in
          omega arith
    ];
    least_number = name_number (k + 1);
  }

  -- no global is repeated
  pub globals_none : ((k : ℕ) → ¬ IsRepeated [] (draft_globals p) k) → NoneBelow (NameFault p) (line_of_procedure p 0)
  globals_none distinct l f fault = elim fault as (λ m g _. line_of_procedure p 0 ≤ m) [
    | Global_again j r ↦ absurd (distinct j r)
    | Procedure_again j r at_j twice ↦ omega arith
    | In_procedure j r at_j m g inner ↦
        let lines = procedure_lines (draft_globals p) (draft_procedures p) r (line_of_procedure p j) m g inner in
        omega arith
  ]

  module _ (j : ℕ) (q : Procedure) (at : IsThe j q) (before : NoneBelow (NameFault p) (line_of_procedure p j)) where
    -- a procedure's name is declared again
    pub name_first : IsNamedAgain j q → IsFirst (NameFault p) (line_of_procedure p j) DeclaredTwice
    name_first again = record {
      found = Procedure_again j q at again;
      least_line = before;
      least_number = name_number (line_of_procedure p j);
    }

    module _ (first : ¬ IsNamedAgain j q) where
      of_procedure : (l : ℕ) (f : Fault) → NameFault p l f → l < line_of_procedure p j + lines_of_procedure q → InThe j q l f
      of_procedure l f fault high = elim (at_procedure j q at l f fault (before l f fault) high) [ inl again ↦ absurd (first again) | inr inner ↦ inner ]

      least_here : (line : ℕ) → line < line_of_procedure p j + lines_of_procedure q → NoneBelow (InThe j q) line → NoneBelow (NameFault p) line
      least_here line high least l f fault = elim (cases_lt l (line_of_procedure p j + lines_of_procedure q)) [
        | inl inside ↦ least l f (of_procedure l f fault inside)
        | inr past ↦ omega arith
      ]

      -- what was found in the procedure is the first of the program
      pub procedure_told : (r : Refused) → TellsFirst (InThe j q) r → TellsFirst (NameFault p) r
      procedure_told NoMemory told = tt
      procedure_told (Text line fault) told =
          let high = (procedure_lines (draft_globals p) (draft_procedures p) q (line_of_procedure p j) line fault told.found).1 in
          record {
            found = In_procedure j q at line fault told.found;
            least_line = least_here line high told.least_line;
            least_number = λ f h. told.least_number f (of_procedure line f h high);
          }
      procedure_told _ told = told

      -- the procedure has none
      pub procedures_more : ((l : ℕ) (f : Fault) → ¬ InThe j q l f) → NoneBelow (NameFault p) (line_of_procedure p (j + 1))
      procedures_more none l f fault = elim (cases_lt l (line_of_procedure p j + lines_of_procedure q)) [
        | inl inside ↦ absurd (none l f (of_procedure l f fault inside))
        | inr past ↦ let next = next_line j q at in omega arith
      ]

  -- none comes after the last procedure
  pub procedures_none : (n : ℕ) → n ≡ length (draft_procedures p) → NoneBelow (NameFault p) (line_of_procedure p n) → (l : ℕ) (f : Fault) → ¬ NameFault p l f
  procedures_none n all before l f fault =
      let low : line_of_procedure p n ≤ l = before l f fault in
      let high : l ≤ draft_line_count p = (name_line l f fault).1 in
      let whole : sum_by lines_of_procedure (take n (draft_procedures p)) ≡ sum_by lines_of_procedure (draft_procedures p) = ap (sum_by lines_of_procedure) (take_all n (draft_procedures p) (omega arith)) in
      omega arith

  -- what tells the first fault names a line of the program
  pub told_within : (r : Refused) → TellsFirst (NameFault p) r → IsTextRefusal 1 (draft_line_count p) r
  told_within NoMemory told = tt
  told_within (Text line fault) told = name_line line fault told.found
  told_within _ told = told

  pub checked_within : (r : Result (Unit {0}) Refused) → Checked (NameFault p) r → IfErr r (IsTextRefusal 1 (draft_line_count p))
  checked_within (Ok _) checked = tt
  checked_within (Err refused) checked = told_within refused checked
