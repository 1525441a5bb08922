-- What is declared: names that stand in a list, labels that statements declare, procedures that have a name.
use Rattle.std.specs.Prelude.{ℕ, ◌<◌, ◌≤◌, ◌≡◌, Bool, true, false, List, [], ◌++◌, Option, None, Some, length, take, slice_index_or, is_some, vec_len, ◌==◌}
use Rattle.std.specs.List.{list_any, find}
use Rattle.std.specs.Str.{bytes_eq}
use Rattle.ide_text.specs.declared.program.Procedure.{Procedure}
use Rattle.ide_text.specs.declared.program.Statement.{Statement}
use Rattle.ide_text.specs.declared.program.Statement.TheVariants.{Assign, Skip, At, Goto, Branch, Call, Return}

-- whether the name is one of these
abbrev pub is_among : List (List ℕ) → List ℕ → Bool
is_among names x = list_any (bytes_eq x) names

-- the k-th of the names stands among the known ones, or among those before it
pub record IsRepeated (known names : List (List ℕ)) (k : ℕ) : Type 0 where
  pub within : k < length names
  pub again : is_among (known ++ take k names) (slice_index_or names k []) ≡ true

-- the first of the names that is repeated stands there, or none is
abbrev pub IsFirstRepeated : List (List ℕ) → List (List ℕ) → Option ℕ → Type 0
IsFirstRepeated known names None = (k : ℕ) → ¬ IsRepeated known names k
IsFirstRepeated known names (Some first) = IsRepeated known names first × ((k : ℕ) → IsRepeated known names k → first ≤ k)

-- whether the statement is `at l`
abbrev pub declares : List ℕ → Statement → Bool
declares l (At m) = bytes_eq l m
declares l (Assign x e) = false
declares l Skip = false
declares l (Goto m) = false
declares l (Branch m) = false
declares l (Call x callees arguments) = false
declares l (Return y) = false

-- whether one of the statements declares the label
abbrev pub is_label : List Statement → List ℕ → Bool
is_label statements l = list_any (declares l) statements

-- whether the procedure has the name
abbrev pub is_named : List ℕ → Procedure → Bool
is_named name procedure = bytes_eq name procedure.name

-- the first procedure of the name
abbrev pub first_named : List Procedure → List ℕ → Option Procedure
first_named procedures name = find (is_named name) procedures

-- whether a procedure has the name
abbrev pub is_procedure : List Procedure → List ℕ → Bool
is_procedure procedures name = is_some (first_named procedures name)

-- whether the procedure, if there is one, has so many parameters
abbrev pub has_parameters : ℕ → Option Procedure → Bool
has_parameters count None = true
has_parameters count (Some procedure) = vec_len procedure.parameters == count

-- whether the first procedure of the name, if there is one, has so many parameters
abbrev pub takes : List Procedure → ℕ → List ℕ → Bool
takes procedures count name = has_parameters count (first_named procedures name)
