-- What each step on a board tells the seat that makes it: what the seat is afterwards, and what is so of another's note.
use Rattle.std.specs.Prelude.{◌≡◌, ℕ, ◌+◌, ◌≤◌, List, [], ◌++◌, length, take, max}
use mathlib.Core.List.{IsPrefix}
use Rattle.atomic_table.specs.Table.{Step}
use Rattle.ide_board.specs.declared.view.Role.TheVariants.{Founder, Table, Writer, Client, Nothing}
use Rattle.ide_board.specs.declared.view.View.{View}
use Rattle.ide_board.specs.Records.{Marked, AreSealed, AreStoredBelow, AscendInNumber, unmarked, last_pair}
use Rattle.ide_board.specs.Roles.{Sitter, without_note, sealed_in, handed_in, before_in, taken_in, stored_in, client_in, own_in, seen_in}

-- the first seat of all
abbrev pub founder : {R : Type 0} → ℕ → View R
founder count = without_note (Founder count)

-- the table's seat and the writer's over records that are all stored
abbrev pub table_of : {R : Type 0} → List R → View R
table_of records = without_note (Table (unmarked records) (length records) (length records))

abbrev pub writer_of : {R : Type 0} → List R → View R
writer_of records = without_note (Writer (unmarked records) (unmarked records))

-- a new client's seat, which has seen what the writer stored
abbrev pub client_of : {R : Type 0} → ℕ → View R → View R
client_of number v = without_note (Client number [] (length (stored_in v.role)))

-- a note of what the seat knows
abbrev pub carrier_of : {R : Type 0} → View R → View R
carrier_of v = record { role = Nothing; note = v.role }

-- the seat with the note that another carries
abbrev pub with_carried : {R : Type 0} → View R → View R → View R
with_carried v carrier = record { role = v.role; note = carrier.note }

-- the seat with a note of what the other knows
abbrev pub told_of : {R : Type 0} → View R → View R → View R
told_of v w = record { role = v.role; note = w.role }

-- the entry, a record with its mark, comes behind the sealed records
abbrev pub Sealing : {R : Type 0} → List (Marked R) → Step (Unit {0}) → Sitter R → ℕ → Sitter R → Type 0
Sealing entry s m found n = n.0 ≡ without_note (Table (sealed_in m.0.role ++ entry) (handed_in m.0.role) (handed_in m.0.role))

-- one more of the records handed over is stored
abbrev pub Publishing : {R : Type 0} → Step (Unit {0}) → Sitter R → ℕ → Sitter R → Type 0
Publishing s m found n = n.0 ≡ without_note (Writer (taken_in m.0.role) (take (length (stored_in m.0.role) + 1) (taken_in m.0.role)))

-- the number found has been seen, and is not below the one before
abbrev pub Reading : {R : Type 0} → Step (Unit {0}) → Sitter R → ℕ → Sitter R → Type 0
Reading s m found n = (n.0 ≡ without_note (Client (client_in m.0.role) (own_in m.0.role) found)) × (seen_in m.0.role ≤ found)

-- the greater number has been seen, of the seat's own and the noted one
abbrev pub Learning : {R : Type 0} → Step (Unit {0}) → Sitter R → ℕ → Sitter R → Type 0
Learning s m found n = n.0 ≡ without_note (Client (client_in m.0.role) (own_in m.0.role) (max (seen_in m.0.role) (seen_in m.0.note)))

-- of the noted client: its pairs ascend, each is a sealed record of its own, and what it has seen was handed over
abbrev pub Comparing : {R : Type 0} → Step (Unit {0}) → Sitter R → ℕ → Sitter R → Type 0
Comparing s m found n =
    (n.0 ≡ without_note (Table (sealed_in m.0.role) (handed_in m.0.role) (handed_in m.0.role))) × AreSealed (sealed_in m.0.role) (client_in m.0.note) (own_in m.0.note)
    × AscendInNumber (own_in m.0.note) × (seen_in m.0.note ≤ handed_in m.0.role)

-- of the noted client: each of its pairs below the number that it has seen is a stored record, and so many are stored
abbrev pub Confirming : {R : Type 0} → Step (Unit {0}) → Sitter R → ℕ → Sitter R → Type 0
Confirming s m found n =
    (n.0 ≡ without_note (Writer (taken_in m.0.role) (stored_in m.0.role))) × AreStoredBelow (seen_in m.0.note) (stored_in m.0.role) (client_in m.0.note) (own_in m.0.note)
    × (seen_in m.0.note ≤ length (stored_in m.0.role))

-- the last of the noted sealed records is one more of the client's own
abbrev pub Adding : {R : Type 0} → Step (Unit {0}) → Sitter R → ℕ → Sitter R → Type 0
Adding s m found n = n.0 ≡ without_note (Client (client_in m.0.role) (own_in m.0.role ++ last_pair (sealed_in m.0.note)) (seen_in m.0.role))

-- A hand over begins: the table's number is that of its sealed records. What the writer had taken begins these, and is no more than was handed over before
abbrev pub Counting : {R : Type 0} → Step (Unit {0}) → Sitter R → ℕ → Sitter R → Type 0
Counting s m found n =
    (n.0 ≡ without_note (Table (sealed_in m.0.role) (length (sealed_in m.0.role)) (handed_in m.0.role))) × IsPrefix (taken_in m.0.note) (sealed_in m.0.role)
    × (length (taken_in m.0.note) ≤ handed_in m.0.role) × (handed_in m.0.role ≤ length (sealed_in m.0.role))

-- the writer takes the noted sealed records over; it had taken as many as were handed over before
abbrev pub Taking : {R : Type 0} → Step (Unit {0}) → Sitter R → ℕ → Sitter R → Type 0
Taking s m found n = (n.0 ≡ without_note (Writer (sealed_in m.0.note) (stored_in m.0.role))) × (length (taken_in m.0.role) ≡ before_in m.0.note)

-- the hand over ends, since the writer has taken as many as the table handed over
abbrev pub Ending : {R : Type 0} → Step (Unit {0}) → Sitter R → ℕ → Sitter R → Type 0
Ending s m found n = n.0 ≡ without_note (Table (sealed_in m.0.role) (handed_in m.0.role) (handed_in m.0.role))
