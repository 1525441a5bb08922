-- Records and their marks, the pairs that a client notes, and what contracts see of a seat.
use Rattle.std.specs.Prelude.{◌≡◌, ◌≢◌, ℕ, zero, suc, ◌-◌, ◌<◌, List, [], ◌∷◌, ◌++◌, length, map, take, drop, Option, Some, None, slice_get}
use Rattle.std.specs.List.{AllByRecursion}
use Rattle.atomic_table.specs.Seated.{TableId}

-- a record with its mark: the number of the client that ordered it, or none
abbrev pub Marked : Type 0 → Type 0
Marked R = R × Option ℕ

-- the records, marked with no client
abbrev pub unmarked : {R : Type 0} → List R → List (Marked R)
unmarked records = map (λ x. (x, None)) records

-- each of these pairs, a number and a record, is a sealed record, at its number and marked with the client
abbrev pub AreSealed : {R : Type 0} → List (Marked R) → ℕ → List (ℕ × R) → Type 0
AreSealed sealed client own = AllByRecursion (λ pair. slice_get sealed pair.0 ≡ Some (pair.1, Some client)) own

-- each of these pairs below a number is a stored record, at its number and marked with the client
abbrev pub AreStoredBelow : {R : Type 0} → ℕ → List (Marked R) → ℕ → List (ℕ × R) → Type 0
AreStoredBelow bound stored client own = AllByRecursion (λ pair. pair.0 < bound → slice_get stored pair.0 ≡ Some (pair.1, Some client)) own

-- the numbers of the pairs strictly ascend
abbrev pub AscendInNumber : {R : Type 0} → List (ℕ × R) → Type 0
AscendInNumber [] = Unit {0}
AscendInNumber (pair ∷ pairs) = AllByRecursion (λ later. pair.0 < later.0) pairs × AscendInNumber pairs

-- no pair has the number
abbrev pub IsNotNoted : {R : Type 0} → ℕ → List (ℕ × R) → Type 0
IsNotNoted number own = AllByRecursion (λ pair. pair.0 ≢ number) own

-- the last of the records is marked with the client
abbrev pub IsLastOf : {R : Type 0} → ℕ → List (Marked R) → Type 0
IsLastOf {R} client records = (before : List (Marked R)) × (x : R) × (records ≡ before ++ (x, Some client) ∷ [])

-- the last record with its number, as a list of one pair; of no records, no pair
abbrev pub last_pair : {R : Type 0} → List (Marked R) → List (ℕ × R)
last_pair records = map (λ m. (length records - 1, m.0)) (drop (length records - 1) records)

-- what contracts see of the seat under the table's lock: its board, the records sealed, and how many of them were handed over
pub record TableView (R : Type 0) : Type 0 where
  pub board : TableId
  pub sealed : List (Marked R)
  pub handed : ℕ

-- of the writer's seat: its board, the records handed over to it, and those of them that are stored
pub record WriterView (R : Type 0) : Type 0 where
  pub board : TableId
  pub taken : List (Marked R)
  pub stored : List (Marked R)

-- of a client's seat: its board, the client's number, its own records with their numbers, and the acknowledged number that it has seen
pub record ClientView (R : Type 0) : Type 0 where
  pub board : TableId
  pub number : ℕ
  pub own : List (ℕ × R)
  pub seen : ℕ

-- the table's seat with one more sealed record
abbrev pub with_sealed : {R : Type 0} → TableView R → Marked R → TableView R
with_sealed table entry = record table { sealed = table.sealed ++ entry ∷ [] }

-- the client with more pairs of its own
abbrev pub with_own : {R : Type 0} → ClientView R → List (ℕ × R) → ClientView R
with_own client more = record client { own = client.own ++ more }

-- the writer with so many of the records handed over stored
abbrev pub with_stored : {R : Type 0} → WriterView R → ℕ → WriterView R
with_stored writer count = record writer { stored = take count writer.taken }

-- the table's seat at the start, over records that are all stored
abbrev pub new_table : {R : Type 0} → TableId → List R → TableView R
new_table board records = record { board = board; sealed = unmarked records; handed = length records }

-- the writer's seat at the start
abbrev pub new_writer : {R : Type 0} → TableId → List R → WriterView R
new_writer board records = record { board = board; taken = unmarked records; stored = unmarked records }

-- a client's seat at the start
abbrev pub new_client : {R : Type 0} → TableId → ℕ → ℕ → ClientView R
new_client board seen number = record { board = board; number = number; own = []; seen = seen }

-- the seats of so many clients at the start, in the order of their numbers
abbrev pub new_clients : {R : Type 0} → TableId → ℕ → ℕ → List (ClientView R)
new_clients board seen zero = []
new_clients board seen (suc number) = new_clients board seen number ++ new_client board seen number ∷ []

-- the seats that the writer's seat gives to so many clients, which have seen what is stored
abbrev pub given_clients : {R : Type 0} → WriterView R → ℕ → List (ClientView R)
given_clients writer clients = new_clients writer.board (length writer.stored) clients

-- the name of no board
abbrev pub no_board : TableId
no_board = record { words = 0; slots = 0; views_name = 0; atom = 0; block = 0; offset = 0; slot_names = [] }
