-- What a text says, where it spells a program.
use Rattle.std.specs.Prelude.{ℕ, ◌≡◌, List}
use Rattle.ide_text.specs.declared.program.Program.{Program}
use Rattle.ide_text.specs.Program.{text_of, value_of}
use Rattle.ide_text.specs.Value.{ProgramValue}

-- the text is that of some program that says so
abbrev pub IsTextOf : List ℕ → ProgramValue → Type 0
IsTextOf text value = ∥ ((p : Program) × (text_of p ≡ text) × (value_of p ≡ value)) ∥₁

-- the text is that of some program, with what that says: the programs of one text say one thing
abbrev pub SaysOnce : List ℕ → Type 0
SaysOnce text = (value : ProgramValue) × IsTextOf text value
