-- Programs, as clauses see them: what their drafts say.
use Rattle.std.specs.Prelude.{ℕ, List}
use Rattle.ide_text.specs.declared.program.Procedure.{Procedure}
use Rattle.ide_text.specs.declared.program.Program.{Program}
use Rattle.ide_text.specs.Draft as drafts
use Rattle.ide_text.specs.Text.{draft_text}
use Rattle.ide_text.specs.Value.{ProgramValue, draft_value}

-- the globals, each as the list of its bytes
abbrev pub globals_of : Program → List (List ℕ)
globals_of p = drafts.draft_globals p.draft

-- the procedures
abbrev pub procedures_of : Program → List Procedure
procedures_of p = drafts.draft_procedures p.draft

-- how many lines the text has
abbrev pub lines_of : Program → ℕ
lines_of p = drafts.draft_line_count p.draft

-- the text
abbrev pub text_of : Program → List ℕ
text_of p = draft_text p.draft

-- what the program says
abbrev pub value_of : Program → ProgramValue
value_of p = draft_value p.draft
