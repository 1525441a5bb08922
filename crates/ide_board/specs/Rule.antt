-- What holds of a board between any two steps.
use Rattle.std.specs.Prelude.{◌≡◌, ℕ, ◌≤◌, ◌⊎◌, List, [], ◌∷◌, length}
use mathlib.Core.Option.{some}
use mathlib.Core.List.{IsPrefix}
use lib.ListN.{get_elem?}
use Rattle.atomic_table.specs.Table.{State}
use Rattle.ide_board.specs.declared.view.Role.{Role}
use Rattle.ide_board.specs.declared.view.Role.TheVariants.{Founder, Table, Writer, Client, Nothing}
use Rattle.ide_board.specs.declared.view.View.{View}
use Rattle.ide_board.specs.Records.{Marked, AreSealed, AscendInNumber}

-- the three lists of a board, the number handed over and the one before it, and which seats are the table's and the writer's
pub record Ledger (R : Type 0) : Type 0 where
  pub sealed : List (Marked R)
  pub taken : List (Marked R)
  pub stored : List (Marked R)
  pub handed : ℕ
  pub before : ℕ
  pub table : ℕ
  pub writer : ℕ

-- The stored records begin those handed over, which begin the sealed ones. As many were taken as the table handed over; while a hand over is under way, maybe only as many as before it
pub record IsNested {R : Type 0} (l : Ledger R) : Type 0 where
  pub taken : IsPrefix l.taken l.sealed
  pub stored : IsPrefix l.stored l.taken
  pub exact : (length l.taken ≡ l.before) ⊎ (length l.taken ≡ l.handed)
  pub before : l.before ≤ l.handed
  pub handed : l.handed ≤ length l.sealed

-- the two words: how many records are sealed, and how many are stored
abbrev pub counts : {R : Type 0} → Ledger R → List ℕ
counts l = length l.sealed ∷ length l.stored ∷ []

-- what a client knows is so: its pairs ascend, each is a sealed record of its own, and what it has seen is stored
abbrev pub IsTrueOf : {R : Type 0} → Ledger R → ℕ → List (ℕ × R) → ℕ → Type 0
IsTrueOf l number own seen = AscendInNumber own × AreSealed l.sealed number own × (seen ≤ length l.stored)

-- What a seat's own role says of the ledger. The table's seat and the writer's know their lists exactly; the first seat is alone, and knows how many records there are
abbrev pub KnowsLedger : {R : Type 0} → Ledger R → (seats at : ℕ) → Role R → Type 0
KnowsLedger l seats at (Founder count) = (seats ≡ 1) × (length l.sealed ≡ count) × (length l.stored ≡ count)
KnowsLedger l seats at (Table sealed handed before) = (at ≡ l.table) × (sealed ≡ l.sealed) × (handed ≡ l.handed) × (before ≡ l.before)
KnowsLedger l seats at (Writer taken stored) = (at ≡ l.writer) × (taken ≡ l.taken) × (stored ≡ l.stored)
KnowsLedger l seats at (Client number own seen) = IsTrueOf l number own seen
KnowsLedger l seats at Nothing = Unit {0}

-- What a note of another seat's role says: what stays so while others step. Where the table's numbers have changed since, the writer has taken all that was handed over then
abbrev pub Recalls : {R : Type 0} → Ledger R → Role R → Type 0
Recalls l (Founder count) = Unit {0}
Recalls l (Table sealed handed before) = IsPrefix sealed l.sealed × (((before ≡ l.before) × (handed ≡ l.handed)) ⊎ (handed ≤ length l.taken))
Recalls l (Writer taken stored) = IsPrefix taken l.taken × IsPrefix stored l.stored
Recalls l (Client number own seen) = IsTrueOf l number own seen
Recalls l Nothing = Unit {0}

-- there is a ledger which the words count, and of which each seat knows and recalls what is so
pub record Published {R : Type 0} (words : List ℕ) (views : List (View R)) : Type 0 where
  pub ledger : Ledger R
  pub nested : IsNested ledger
  pub counted : words ≡ counts ledger
  pub seats : (at : ℕ) (v : View R) → get_elem? views at ≡ some v → KnowsLedger ledger (length views) at v.role × Recalls ledger v.note

abbrev pub Kept : {R : Type 0} → ℕ → State (Unit {0}) (View R) → Type 0
Kept count s = Published s.words s.views
