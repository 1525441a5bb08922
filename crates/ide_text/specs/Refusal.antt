-- Refusals of a program text.
use Rattle.std.specs.Prelude.{ℕ, List, ◌≤◌}
use Rattle.ide_wire.specs.declared.refused.Refused.{Refused}
use Rattle.ide_wire.specs.declared.refused.Refused.TheVariants.{NoMemory, Text}
use Rattle.ide_text.specs.declared.flaw.Flaw.{Flaw}
use Rattle.ide_text.specs.declared.flaw.Flaw.TheVariants as flaw
use Rattle.ide_text.specs.declared.program.Draft.{Draft}
use Rattle.ide_text.specs.FirstFault.{FirstFault}
use Rattle.ide_text.specs.Grammar.{Spells}
use Rattle.ide_text.specs.Lines.{IsWithinLimits}

-- for want of memory, or for a fault on a line from `first` to `last`
abbrev pub IsTextRefusal : ℕ → ℕ → Refused → Type 0
IsTextRefusal first last NoMemory = Unit {0}
IsTextRefusal first last (Text line fault) = (first ≤ line) × (line ≤ last)
IsTextRefusal first last _ = ⊥

-- the refusal of a text for that flaw on that line
abbrev pub refusal_on : ℕ → Flaw → Refused
refusal_on line flaw.NoMemory = NoMemory
refusal_on line (flaw.Faulty fault) = Text line fault

-- for want of memory, or for the first fault of F2 to F4
abbrev pub IsFirstFault : List ℕ → Refused → Type 0
IsFirstFault text NoMemory = Unit {0}
IsFirstFault text (Text line fault) = FirstFault text line fault
IsFirstFault text _ = ⊥

-- the text spells a draft within the limits
abbrev pub IsSpelled : List ℕ → Type 0
IsSpelled text = (p : Draft) × Spells text p × IsWithinLimits p
