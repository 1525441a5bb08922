-- Laws of texts, their programs and their faults.
use Rattle.std.specs.Prelude.{ℕ, ◌≡◌, List}
use Rattle.ide_wire.specs.declared.refused.Fault.{Fault}
use Rattle.ide_wire.specs.declared.refused.Refused.{Refused}
use Rattle.ide_wire.specs.declared.refused.Refused.TheVariants.{NoMemory}
use Rattle.ide_text.specs.FirstFault.{FirstFault}
use Rattle.ide_text.specs.Grammar.{Spells}
use Rattle.ide_text.specs.Parsed.{IsParsed, IsRefusalOf, TextFault}
use Rattle.ide_text.specs.Program.{text_of, value_of}
use Rattle.ide_text.specs.Refusal.{IsSpelled}
use Rattle.ide_text.specs.Value.{draft_value}
use Rattle.ide_text.specs.declared.program.Draft.{Draft}
use Rattle.ide_text.specs.declared.program.Program.{Program}

-- a text has one first fault at most
abbrev pub HaveOneFirstFault : Type 0
HaveOneFirstFault = (text : List ℕ) (m n : ℕ) (f g : Fault) → FirstFault text m f → FirstFault text n g → (m ≡ n) × (f ≡ g)

-- a text that spells a draft within the limits has none
abbrev pub SpelledHaveNoFault : Type 0
SpelledHaveNoFault = (text : List ℕ) (n : ℕ) (f : Fault) → IsSpelled text → ¬ (FirstFault text n f)

-- a text spells one draft at most, up to its value
abbrev pub SpellOneProgram : Type 0
SpellOneProgram = (text : List ℕ) (d e : Draft) → Spells text d → Spells text e → draft_value d ≡ draft_value e

-- a text has one fault at most, on one line
abbrev pub HaveOneFault : Type 0
HaveOneFault = (text : List ℕ) (m n : ℕ) (f g : Fault) → TextFault text m f → TextFault text n g → (m ≡ n) × (f ≡ g)

-- a text that is parsed has none
abbrev pub ParsedHaveNoFault : Type 0
ParsedHaveNoFault = (text : List ℕ) (p : Program) (n : ℕ) (f : Fault) → IsParsed text p → ¬ (TextFault text n f)

-- the text of a program is parsed to that program, up to the room that its vectors have, and is refused for want of
-- memory alone
pub record IsParsedAgain (p : Program) : Type 0 where
  pub itself : IsParsed (text_of p) p
  pub equal : (q : Program) → IsParsed (text_of p) q → value_of q ≡ value_of p
  pub refused : (refused : Refused) → IsRefusalOf (text_of p) refused → refused ≡ NoMemory

-- what is printed of a program is parsed to it again
abbrev pub PrintedAreParsedAgain : Type 0
PrintedAreParsedAgain = (p : Program) → IsParsedAgain p

-- what a text is parsed to is printed as that text again
abbrev pub ParsedArePrintedAgain : Type 0
ParsedArePrintedAgain = (text : List ℕ) (p : Program) → IsParsed text p → text_of p ≡ text

-- programs of one value, as a program and its copies, have one text
abbrev pub EqualHaveOneText : Type 0
EqualHaveOneText = (p q : Program) → value_of p ≡ value_of q → text_of p ≡ text_of q
