-- What the tables of labels and of procedures find by a name.
use Rattle.std.specs.Prelude.{ℕ, ◌≡◌, List}
use Rattle.ide_text.specs.declared.program.Procedure.{Procedure}
use Rattle.ide_text.specs.declared.program.Statement.{Statement}
use Rattle.ide_graph.specs.Named.{procedure_of_name}
use Rattle.ide_text.specs.Places.{place_of}
use Rattle.ide_graph.specs.Numbers.{label_among, procedure_of}

-- each label has the node of its first `at` among the statements, the first of which has that node
abbrev pub AreFirstOf : List Statement → ℕ → List (List ℕ × ℕ) → Type 0
AreFirstOf statements first labels = (name : List ℕ) → place_of labels name ≡ label_among first statements name

-- each name finds the first procedure that has it
abbrev pub FindsEach : List Procedure → List (List ℕ × ℕ) → Type 0
FindsEach procedures named = (name : List ℕ) → procedure_of_name named name ≡ procedure_of procedures name
