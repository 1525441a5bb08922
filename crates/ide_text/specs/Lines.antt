-- Drafts as lists of lines, which have the latest line first.
use Rattle.std.specs.Prelude.{ℕ, List, [], ◌∷◌, ◌++◌, Option, Some, None, map, reverse}
use Rattle.ide_text.specs.declared.line.Line.{Line}
use Rattle.ide_text.specs.declared.line.Line.TheVariants.{Global, Procedure as Begin, Local, End, Statement as Step}
use Rattle.ide_text.specs.declared.program.Procedure.{Procedure}
use Rattle.ide_text.specs.declared.program.Draft.{Draft}
use Rattle.ide_text.specs.FirstFault.{AreTaken, MayEnd}
use Rattle.ide_text.specs.Draft.{draft_globals, draft_procedures}

-- the lines of a procedure before its `end`
abbrev pub open_lines : Procedure → List Line
open_lines p =
    reverse (map (λ s. Step s) p.statements.items) ++ (reverse (map (λ x. Local x) p.locals.items) ++ Begin p.name p.parameters ∷ [])

-- the lines of procedures that have their `end`
abbrev pub ended_lines : List Procedure → List Line
ended_lines [] = []
ended_lines (p ∷ procedures) = ended_lines procedures ++ End ∷ open_lines p

-- the lines of globals
abbrev pub global_lines : List (List ℕ) → List Line
global_lines globals = reverse (map (λ g. Global g) globals)

-- the lines of globals, of procedures, and of one whose `end` is still to come
abbrev pub lines_in : List (List ℕ) → List Procedure → Option Procedure → List Line
lines_in globals procedures None = ended_lines procedures ++ global_lines globals
lines_in globals procedures (Some p) = open_lines p ++ (ended_lines procedures ++ global_lines globals)

-- the lines of a draft
abbrev pub draft_lines : Draft → List Line
draft_lines p = lines_in (draft_globals p) (draft_procedures p) None

-- each line of the draft is of the grammar, in its place and within the limits
pub record IsWithinLimits (p : Draft) : Type 0 where
  pub taken : AreTaken (draft_lines p)
  pub ended : MayEnd (draft_lines p)
