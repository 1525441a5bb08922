-- How the nodes and the facts of a program are numbered.
use Rattle.std.specs.Prelude.{ℕ, ◌+◌, ◌-◌, List, [], ◌∷◌, ◌++◌, Option, codes, length, map, max, take}
use Rattle.std.specs.List.{flat_map, position}
use Rattle.std.specs.Option.{option_map}
use Rattle.ide_text.specs.declared.program.Procedure.{Procedure}
use Rattle.ide_text.specs.declared.program.Program.{Program}
use Rattle.ide_text.specs.declared.program.Statement.{Statement}
use Rattle.ide_text.specs.declared.program.Statement.TheVariants.{Call}
use Rattle.ide_text.specs.Names.{declares, is_named}
use Rattle.ide_text.specs.Program.{globals_of, procedures_of}
use Rattle.std.specs.Str.{bytes_eq}

-- what stands at a node: of a call the statement itself stands at its call node
pub data Spot : Type 0 where
  start : Spot
  statement : Statement → Spot
  return_site : Spot
  exit : Spot

-- the nodes of a statement
abbrev pub spots_on : Statement → List Spot
spots_on (Call target callees arguments) = statement (Call target callees arguments) ∷ return_site ∷ []
spots_on s = statement s ∷ []

-- the nodes of a procedure
abbrev pub spots_of : Procedure → List Spot
spots_of p = start ∷ flat_map spots_on p.statements.items ++ exit ∷ []

-- the nodes of procedures, the first of which has that index: each with its procedure's index
abbrev pub nodes_from : ℕ → List Procedure → List (ℕ × Spot)
nodes_from index [] = []
nodes_from index (p ∷ procedures) = map (λ spot. (index, spot)) (spots_of p) ++ nodes_from (index + 1) procedures

-- the nodes of a program, in the order of their numbers
abbrev pub nodes_of : List Procedure → List (ℕ × Spot)
nodes_of procedures = nodes_from 0 procedures

-- the start of the procedure of that index: all nodes before it are of procedures before
abbrev pub start_of : List Procedure → ℕ → ℕ
start_of procedures index = length (nodes_of (take index procedures))

-- its exit, the last of its nodes
abbrev pub exit_of : List Procedure → ℕ → ℕ
exit_of procedures index = start_of procedures (index + 1) - 1

-- the node of the first `at` of the label, among statements whose nodes begin there
abbrev pub label_among : ℕ → List Statement → List ℕ → Option ℕ
label_among begin statements label = option_map (λ place. begin + length (flat_map spots_on (take place statements))) (position (declares label) statements)

-- the same in a procedure that begins at `begin`
abbrev pub label_from : ℕ → Procedure → List ℕ → Option ℕ
label_from begin p label = label_among (begin + 1) p.statements.items label

-- the index of the first procedure of the name
abbrev pub procedure_of : List Procedure → List ℕ → Option ℕ
procedure_of procedures name = position (is_named name) procedures

-- the names of the facts at the nodes of a procedure, in the order of their numbers
abbrev pub names_at : List (List ℕ) → Procedure → List (List ℕ)
names_at globals p = codes "@zero" ∷ globals ++ codes "@result" ∷ p.parameters.items ++ p.locals.items

-- the fact of a name there
abbrev pub fact_at : List (List ℕ) → Procedure → List ℕ → Option ℕ
fact_at globals p name = position (bytes_eq name) (names_at globals p)

-- the most parameters and locals that a procedure has
abbrev pub most_own : List Procedure → ℕ
most_own [] = 0
most_own (p ∷ procedures) = max (length p.parameters.items + length p.locals.items) (most_own procedures)

-- the fact `@result`: the entry facts are those before it
abbrev pub result_of : Program → ℕ
result_of p = length (globals_of p) + 1

-- how many facts the program has
abbrev pub facts_of : Program → ℕ
facts_of p = length (globals_of p) + 2 + most_own (procedures_of p)
