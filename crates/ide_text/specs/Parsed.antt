-- What is answered of a whole text: its program, or its one fault.
use Rattle.std.specs.Prelude.{ℕ, ◌<◌, ◌≤◌, List, length}
use Rattle.ide_wire.specs.declared.refused.Fault.{Fault}
use Rattle.ide_wire.specs.declared.refused.Fault.TheVariants.{TextTooLong}
use Rattle.ide_wire.specs.declared.refused.Refused.{Refused}
use Rattle.ide_wire.specs.declared.refused.Refused.TheVariants.{NoMemory, Text}
use Rattle.ide_text.specs.declared.program.Draft.{Draft}
use Rattle.ide_text.specs.declared.program.Program.{Program}
use Rattle.ide_text.specs.FirstFault.{FirstFault}
use Rattle.ide_text.specs.Grammar.{Spells}
use Rattle.ide_text.specs.Lines.{IsWithinLimits}
use Rattle.ide_text.specs.NameFault.{IsFirstNameFault}

-- the text, of at most 1,048,576 bytes, spells the program
pub record IsParsed (text : List ℕ) (p : Program) : Type 0 where
  pub short : length text ≤ 1048576
  pub spelled : Spells text p.draft

-- the text has that fault on that line: it is too long; else the least line with a fault of F2 to
-- F4 has it; else, where the text spells a draft, its first fault of F5 to F10 is that
pub data TextFault (text : List ℕ) : ℕ → Fault → Type 0 where
  Too_long : 1048576 < length text → TextFault text 0 TextTooLong
  In_lines : length text ≤ 1048576 → (line : ℕ) (fault : Fault) → FirstFault text line fault → TextFault text line fault
  In_names : length text ≤ 1048576 → (d : Draft) → Spells text d → IsWithinLimits d
      → (line : ℕ) (fault : Fault) → IsFirstNameFault d line fault → TextFault text line fault

-- a refusal of the text: for want of memory, or for its fault
abbrev pub IsRefusalOf : List ℕ → Refused → Type 0
IsRefusalOf text NoMemory = Unit {0}
IsRefusalOf text (Text line fault) = TextFault text line fault
IsRefusalOf text _ = ⊥
