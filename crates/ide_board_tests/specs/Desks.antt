-- What the desks of the tests keep: their counts are those of their seats' lists.
use Rattle.std.specs.Prelude.{◌≡◌, ℕ, ◌≤◌, length}
use Rattle.ide_board.specs.Records.{TableView, WriterView}

-- so many records are sealed, and no more were handed over
abbrev pub IsTableDesk : ℕ → TableView ℕ → Type 0
IsTableDesk sealed seat = (sealed ≡ length seat.sealed) × (seat.handed ≤ length seat.sealed)

-- so many records were taken, and so many of them are stored
abbrev pub IsWriterDesk : (taken stored : ℕ) → WriterView ℕ → Type 0
IsWriterDesk taken stored seat = (taken ≡ length seat.taken) × (stored ≡ length seat.stored) × (length seat.stored ≤ length seat.taken)
