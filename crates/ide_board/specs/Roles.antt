-- What a seat knows, read from its role.
use Rattle.std.specs.Prelude.{◌≡◌, ℕ, ◌≤◌, List, [], length}
use Rattle.atomic_table.specs.Table.{Me}
use Rattle.atomic_table.specs.Seated.{TableId}
use Rattle.ide_board.specs.declared.view.Role.{Role}
use Rattle.ide_board.specs.declared.view.Role.TheVariants.{Founder, Table, Writer, Client, Nothing}
use Rattle.ide_board.specs.declared.view.View.{View}
use Rattle.ide_board.specs.Records.{Marked, TableView, WriterView, ClientView}

-- a seat's view, and the slots that it holds: none, since a board has no slots
abbrev pub Sitter : Type 0 → Type 0
Sitter R = Me (Unit {0}) (View R)

-- a seat with this role, and no note of another's
abbrev pub without_note : {R : Type 0} → Role R → View R
without_note role = record { role = role; note = Nothing }

abbrev pub sealed_in : {R : Type 0} → Role R → List (Marked R)
sealed_in (Table sealed handed before) = sealed
sealed_in _ = []

abbrev pub handed_in : {R : Type 0} → Role R → ℕ
handed_in (Table sealed handed before) = handed
handed_in _ = 0

abbrev pub before_in : {R : Type 0} → Role R → ℕ
before_in (Table sealed handed before) = before
before_in _ = 0

abbrev pub taken_in : {R : Type 0} → Role R → List (Marked R)
taken_in (Writer taken stored) = taken
taken_in _ = []

abbrev pub stored_in : {R : Type 0} → Role R → List (Marked R)
stored_in (Writer taken stored) = stored
stored_in _ = []

abbrev pub client_in : {R : Type 0} → Role R → ℕ
client_in (Client number own seen) = number
client_in _ = 0

abbrev pub own_in : {R : Type 0} → Role R → List (ℕ × R)
own_in (Client number own seen) = own
own_in _ = []

abbrev pub seen_in : {R : Type 0} → Role R → ℕ
seen_in (Client number own seen) = seen
seen_in _ = 0

-- the table's seat, with no hand over under way
abbrev pub IsTableRole : {R : Type 0} → Role R → Type 0
IsTableRole role = role ≡ Table (sealed_in role) (handed_in role) (handed_in role)

abbrev pub IsWriterRole : {R : Type 0} → Role R → Type 0
IsWriterRole role = role ≡ Writer (taken_in role) (stored_in role)

abbrev pub IsClientRole : {R : Type 0} → Role R → Type 0
IsClientRole role = role ≡ Client (client_in role) (own_in role) (seen_in role)

-- any seat but the first, from which all others were made
abbrev pub IsSeated : {R : Type 0} → Role R → Type 0
IsSeated (Founder count) = ⊥
IsSeated _ = Unit {0}

abbrev pub table_view : {R : Type 0} → TableId → Role R → TableView R
table_view board role = record { board = board; sealed = sealed_in role; handed = handed_in role }

abbrev pub writer_view : {R : Type 0} → TableId → Role R → WriterView R
writer_view board role = record { board = board; taken = taken_in role; stored = stored_in role }

abbrev pub client_view : {R : Type 0} → TableId → Role R → ClientView R
client_view board role = record { board = board; number = client_in role; own = own_in role; seen = seen_in role }

-- the table's seat between two calls, with as few records sealed as a board may have
pub record IsTableSeat {R : Type 0} (role : Role R) : Type 0 where
  pub table : IsTableRole role
  pub few : length (sealed_in role) ≤ 4294967295

-- the writer's seat, with the count of stored records that it keeps
pub record IsWriterSeat {R : Type 0} (stored : ℕ) (role : Role R) : Type 0 where
  pub writer : IsWriterRole role
  pub count : stored ≡ length (stored_in role)
  pub few : length (taken_in role) ≤ 4294967295

-- a client's seat, with the two numbers that it keeps
pub record IsClientSeat {R : Type 0} (number seen : ℕ) (role : Role R) : Type 0 where
  pub client : IsClientRole role
  pub same_number : number ≡ client_in role
  pub same_seen : seen ≡ seen_in role
