-- The records that are stored: all alike.
use Rattle.std.specs.Prelude.{ℕ, List, [], ◌∷◌, ◌++◌, replicate}
use Rattle.ide_disk.specs.declared.disk.Disk.{Ghosts}
use Rattle.ide_journal.specs.Format.{Entry, Head, zeros}
use Rattle.ide_journal.specs.Lists.{IsAtRest}
use Rattle.ide_journal.specs.declared.journal.Journal.{Journal}

-- so many records of that kind, each with a body of so many zeros
abbrev pub alike : ℕ → ℕ → ℕ → List Entry
alike kind size count = replicate count (kind, zeros size)

-- the journal has that head and so many such records, and is at rest
abbrev pub KeepsAlike : {D : Type 0} {G : Ghosts D} → Head → (kind size count : ℕ) → Journal D G → Type 0
KeepsAlike head kind size count = IsAtRest head (alike kind size count)

-- the record is stored behind those that the journal has
abbrev pub AppendsRecord : {D : Type 0} {G : Ghosts D} → Entry → Journal D G → Journal D G → Type 0
AppendsRecord entry old new = (head : Head) → (entries : List Entry) → IsAtRest head entries old → IsAtRest head (entries ++ entry ∷ []) new
