-- Lines that tell a number.
use Rattle.std.specs.Prelude.{ℕ, List, ◌++◌, codes, decimal}
use Rattle.ide_journal.specs.declared.version.Version.{Version}
use Rattle.ide_journal.specs.declared.version.Version.TheVariants.{One, Two}

-- what is told, and its number
abbrev pub number_line : List ℕ → ℕ → List ℕ
number_line told number = told ++ (decimal number ++ codes "\n")

-- the number of a version
abbrev pub version_number : Version → ℕ
version_number One = 1
version_number Two = 2

-- the line of the number of a stored record, that of a generation, and that of a version
abbrev pub stored_line : ℕ → List ℕ
stored_line number = number_line (codes "stored ") number

abbrev pub generation_line : ℕ → List ℕ
generation_line generation = number_line (codes "generation ") generation

abbrev pub version_line : Version → List ℕ
version_line version = number_line (codes "version ") (version_number version)
