-- The reader, as the lines that it has taken. Lists of lines have the latest line first.
use Rattle.std.specs.Prelude.{ℕ, ◌+◌, ◌≡◌, ◌≢◌, List, ◌∷◌, IfSome, length, option_to_list, vec_len, sum_by, count_by}
use Rattle.ide_text.specs.declared.line.Line.{Line}
use Rattle.ide_text.specs.declared.reader.Reader.{Reader}
use Rattle.ide_wire.specs.declared.refused.Fault.{Fault}
use Rattle.ide_wire.specs.declared.refused.Fault.TheVariants.{NoSuchLine}
use Rattle.ide_text.specs.FirstFault.{Fits, KeepsOut, MayFollow, is_global, begins_procedure, last_variables, most_variables, nodes_on}
use Rattle.ide_text.specs.Grammar.{IsLine}
use Rattle.ide_text.specs.Lines.{lines_in}
use Rattle.ide_text.specs.Text.{line_text}

-- the lines that were taken
abbrev pub taken_lines : Reader → List Line
taken_lines r = lines_in r.globals.items r.procedures.items r.open

-- the reader's counts are those of the lines that it has taken, which are within the limits
pub record IsCounted (r : Reader) : Type 0 where
  pub globals : vec_len r.globals ≡ count_by is_global (taken_lines r)
  pub procedures : vec_len r.procedures + length (option_to_list r.open) ≡ count_by begins_procedure (taken_lines r)
  pub nodes : r.nodes ≡ sum_by nodes_on (taken_lines r)
  pub variables : IfSome r.open (λ p. vec_len p.parameters + vec_len p.locals ≡ last_variables (taken_lines r))
  pub most : r.most_variables ≡ most_variables (taken_lines r)
  pub fits : Fits (taken_lines r)

-- after those lines one more was taken, which the text spells
pub record TakesLine (before after : List Line) (text : List ℕ) : Type 0 where
  pub line : Line
  pub is : IsLine line
  pub spelled : line_text line ≡ text
  pub taken : after ≡ line ∷ before
  pub place : MayFollow before line

-- the fault for which a text can't be taken as the line after those
abbrev pub RefusesLine : List Line → List ℕ → Fault → Type 0
RefusesLine before text NoSuchLine = (l : Line) → IsLine l → line_text l ≢ text
RefusesLine before text fault = (l : Line) × IsLine l × (line_text l ≡ text) × KeepsOut before l fault
