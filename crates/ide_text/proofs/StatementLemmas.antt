-- Which fault of a statement has the least number.
use Rattle.std.proofs.Common.{◌≡◌, ◌≢◌, ℕ, ◌<◌, ◌≤◌, Bool, true, false, true≢false, List, [], ◌∷◌, Option, None, Some, is_some, vec_len, ◌&&◌, ◌==◌, inl, inr, ◌∙◌, sym, ap, refl, arith}
use Rattle.std.specs.List.{list_all, Contains}
use Rattle.std.proofs.lemmas.Bool.{cases_lt}
use Rattle.std.proofs.lemmas.Bool.Decides.{nat_tests}
use Rattle.std.proofs.lemmas.List.Elements.{All-contains, Contains-append_right, Contains-get_or}
use Rattle.std.proofs.lemmas.List.Sums.{AllPass-from_list_all}
use Rattle.ide_wire.specs.declared.refused.Fault.{Fault}
use Rattle.ide_wire.specs.declared.refused.Fault.TheVariants.{TextTooLong, NoSuchLine, OutOfPlace, TooMany, DeclaredTwice, NoSuchVariable, NoSuchLabel, NoSuchProcedure, WrongArguments, WrongCallees}
use Rattle.ide_text.proofs.NameLists.{none_from_is_some}
use Rattle.ide_text.specs.declared.program.Procedure.{Procedure}
use Rattle.ide_text.specs.declared.program.Statement.{Statement}
use Rattle.ide_text.specs.declared.program.Statement.TheVariants.{At}
use Rattle.ide_text.specs.Names.{is_among, is_label, first_named, is_procedure, has_parameters, takes}
use Rattle.ide_text.specs.First.{number_of, IsLeast}
use Rattle.ide_text.specs.NameFault.{AreWrongCallees, StatementFault, Label_again, No_variable, No_label, No_procedure, Wrong_count, Wrong_list, variables_used, labels_used, callees_of, arguments_passed}

module _ {X : Type 0} (p : X → Bool) where
  fails_at : (x : X) (xs : List X) (b : Bool) → p x ≡ b → list_all p (x ∷ xs) ≡ false → (list_all p xs ≡ false → (y : X) × Contains xs y × (p y ≡ false)) → (y : X) × Contains (x ∷ xs) y × (p y ≡ false)
  fails_at x xs false e h rest = (x, Contains-get_or (x ∷ xs) 0 x (omega arith), e)
  fails_at x xs true e h rest = let r = rest (sym (ap (λ b. b && list_all p xs) e) ∙ h) in (r.0, Contains-append_right (x ∷ []) xs r.0 r.1, r.2)

  -- where not all pass, one fails
  pub some_fails : (xs : List X) → list_all p xs ≡ false → (y : X) × Contains xs y × (p y ≡ false)
  some_fails [] h = absurd (true≢false h)
  some_fails (x ∷ xs) h = fails_at x xs (p x) refl h (some_fails xs)

  -- where all pass, none fails
  pub none_fails : (xs : List X) (y : X) → list_all p xs ≡ true → Contains xs y → p y ≡ false → ⊥
  none_fails xs y h among fails = true≢false (sym (All-contains (λ x. p x ≡ true) xs y (AllPass-from_list_all p xs h) among) ∙ fails)

-- what has another count of parameters is there
pub other_count : (count : ℕ) (o : Option Procedure) → has_parameters count o ≡ false → (q : Procedure) × (o ≡ Some q) × (vec_len q.parameters ≢ count)
other_count count None h = absurd (true≢false h)
other_count count (Some q) h = (q, refl, λ same. grind (arith, nat_tests))

at_most : (m n : ℕ) → (m < n → ⊥) → n ≤ m
at_most m n h = elim (cases_lt m n) [ inl less ↦ absurd (h less) | inr more ↦ more ]

differs : (m n : ℕ) → m ≢ n → (m == n) ≡ false
differs m n h = grind (arith, nat_tests)

-- there are ten faults
at_most_ten : (f : Fault) → number_of f ≤ 10
at_most_ten TextTooLong = omega arith
at_most_ten NoSuchLine = omega arith
at_most_ten OutOfPlace = omega arith
at_most_ten TooMany = omega arith
at_most_ten DeclaredTwice = omega arith
at_most_ten NoSuchVariable = omega arith
at_most_ten NoSuchLabel = omega arith
at_most_ten NoSuchProcedure = omega arith
at_most_ten WrongArguments = omega arith
at_most_ten WrongCallees = omega arith

module _ (variables : List (List ℕ)) (procedures : List Procedure) (before statements : List Statement) (s : Statement) where
  -- a fault has at least the number n, where the causes of those below are not there
  pub number_from : (n : ℕ) → (5 < n → ¬ ((l : List ℕ) × (s ≡ At l) × (is_label before l ≡ true))) → (6 < n → list_all (is_among variables) (variables_used s) ≡ true) → (7 < n → list_all (is_label statements) (labels_used s) ≡ true)
      → (8 < n → list_all (is_procedure procedures) (callees_of s) ≡ true) → (9 < n → list_all (takes procedures (arguments_passed s)) (callees_of s) ≡ true) → (10 < n → ¬ AreWrongCallees (callees_of s)) → (f : Fault) → StatementFault variables procedures before statements s f → n ≤ number_of f
  number_from n first known labels called counts listed f fault = elim fault as (λ g _. n ≤ number_of g) [
    | Label_again l is again ↦ at_most 5 n (λ more. first more (l, is, again))
    | No_variable x uses unknown ↦ at_most 6 n (λ more. none_fails (is_among variables) (variables_used s) x (known more) uses unknown)
    | No_label l uses unknown ↦ at_most 7 n (λ more. none_fails (is_label statements) (labels_used s) l (labels more) uses unknown)
    | No_procedure c calls unknown ↦ at_most 8 n (λ more. none_fails (is_procedure procedures) (callees_of s) c (called more) calls (ap is_some unknown))
    | Wrong_count c q calls is other ↦ at_most 9 n (λ more. none_fails (takes procedures (arguments_passed s)) (callees_of s) c (counts more) calls (ap (has_parameters (arguments_passed s)) is ∙ differs (vec_len q.parameters) (arguments_passed s) other))
    | Wrong_list wrong ↦ at_most 10 n (λ more. listed more wrong)
  ]

  -- an earlier statement declares the label that s declares
  abbrev IsAgain : Type 0
  IsAgain = (l : List ℕ) × (s ≡ At l) × (is_label before l ≡ true)

  abbrev Faults : Fault → Type 0
  Faults = StatementFault variables procedures before statements s

  pub least_label : IsAgain → IsLeast Faults DeclaredTwice
  least_label again = record {
    found = Label_again again.0 again.1 again.2;
    least_number = number_from 5 (λ more. absurd (omega arith)) (λ more. absurd (omega arith)) (λ more. absurd (omega arith)) (λ more. absurd (omega arith)) (λ more. absurd (omega arith)) (λ more. absurd (omega arith));
  }

  module _ (first : ¬ IsAgain) where
    pub least_variable : list_all (is_among variables) (variables_used s) ≡ false → IsLeast Faults NoSuchVariable
    least_variable unknown = let one = some_fails (is_among variables) (variables_used s) unknown in record {
      found = No_variable one.0 one.1 one.2;
      least_number = number_from 6 (λ _. first) (λ more. absurd (omega arith)) (λ more. absurd (omega arith)) (λ more. absurd (omega arith)) (λ more. absurd (omega arith)) (λ more. absurd (omega arith));
    }

    module _ (known : list_all (is_among variables) (variables_used s) ≡ true) where
      pub least_unknown_label : list_all (is_label statements) (labels_used s) ≡ false → IsLeast Faults NoSuchLabel
      least_unknown_label unknown = let one = some_fails (is_label statements) (labels_used s) unknown in record {
        found = No_label one.0 one.1 one.2;
        least_number = number_from 7 (λ _. first) (λ _. known) (λ more. absurd (omega arith)) (λ more. absurd (omega arith)) (λ more. absurd (omega arith)) (λ more. absurd (omega arith));
      }

      module _ (labels : list_all (is_label statements) (labels_used s) ≡ true) where
        pub least_procedure : list_all (is_procedure procedures) (callees_of s) ≡ false → IsLeast Faults NoSuchProcedure
        least_procedure unknown = let one = some_fails (is_procedure procedures) (callees_of s) unknown in record {
          found = No_procedure one.0 one.1 (none_from_is_some (first_named procedures one.0) one.2);
          least_number = number_from 8 (λ _. first) (λ _. known) (λ _. labels) (λ more. absurd (omega arith)) (λ more. absurd (omega arith)) (λ more. absurd (omega arith));
        }

        module _ (called : list_all (is_procedure procedures) (callees_of s) ≡ true) where
          pub least_count : list_all (takes procedures (arguments_passed s)) (callees_of s) ≡ false → IsLeast Faults WrongArguments
          least_count wrong =
              let one = some_fails (takes procedures (arguments_passed s)) (callees_of s) wrong in
              let q = other_count (arguments_passed s) (first_named procedures one.0) one.2 in
              record {
                found = Wrong_count one.0 q.0 one.1 q.1 q.2;
                least_number = number_from 9 (λ _. first) (λ _. known) (λ _. labels) (λ _. called) (λ more. absurd (omega arith)) (λ more. absurd (omega arith));
              }

          module _ (counts : list_all (takes procedures (arguments_passed s)) (callees_of s) ≡ true) where
            pub least_list : AreWrongCallees (callees_of s) → IsLeast Faults WrongCallees
            least_list wrong = record {
              found = Wrong_list wrong;
              least_number = number_from 10 (λ _. first) (λ _. known) (λ _. labels) (λ _. called) (λ _. counts) (λ more. absurd (omega arith));
            }

            pub no_fault : ¬ AreWrongCallees (callees_of s) → (f : Fault) → ¬ Faults f
            no_fault listed f fault =
                let above : 11 ≤ number_of f = number_from 11 (λ _. first) (λ _. known) (λ _. labels) (λ _. called) (λ _. counts) (λ _. listed) f fault in
                let below : number_of f ≤ 10 = at_most_ten f in
                omega arith
