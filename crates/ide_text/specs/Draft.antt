-- Drafts, as the lines of their texts.
use Rattle.std.specs.Prelude.{ℕ, ◌+◌, List, length, vec_len, sum_by}
use Rattle.ide_text.specs.declared.program.Draft.{Draft}
use Rattle.ide_text.specs.declared.program.Procedure.{Procedure}

-- the globals, each as the list of its bytes
abbrev pub draft_globals : Draft → List (List ℕ)
draft_globals d = d.globals.items

-- the procedures
abbrev pub draft_procedures : Draft → List Procedure
draft_procedures d = d.procedures.items

-- how many lines the text of a procedure has
abbrev pub lines_of_procedure : Procedure → ℕ
lines_of_procedure p = 2 + vec_len p.locals + vec_len p.statements

-- how many lines the text of a draft has
abbrev pub draft_line_count : Draft → ℕ
draft_line_count d = length (draft_globals d) + sum_by lines_of_procedure (draft_procedures d)
