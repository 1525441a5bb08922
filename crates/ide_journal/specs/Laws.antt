-- Laws of the format.
use Rattle.std.specs.Prelude.{◌≡◌, ℕ, List}
use Rattle.ide_journal.specs.Format.{Entry, Head, Holds}
use Rattle.ide_journal.specs.Opening.{HoldSame}

-- a file holds one list of records at most, with one version and one tag
abbrev pub HoldsOneList : Type 0
HoldsOneList = (head other : Head) (entries others : List Entry) (bytes : List ℕ) → Holds head entries bytes → Holds other others bytes
    → (head ≡ other) × (entries ≡ others)

-- where two files hold the same records, the one holds what the other does
abbrev pub HoldsTheSame : Type 0
HoldsTheSame = (head : Head) (entries : List Entry) (bytes left : List ℕ) → HoldSame bytes left → Holds head entries bytes → Holds head entries left
