-- What clients order: the record of a command becomes the client's own, under its number.
use Rattle.std.specs.Prelude.{◌≡◌, ◌≤◌, ℕ, List, [], ◌∷◌}
use Rattle.ide_batch.specs.Bodies.{IsEntryOf}
use Rattle.ide_batch.specs.Records as records
use Rattle.ide_board.specs.Records.{ClientView, with_own}
use Rattle.ide_store.specs.Table.{Analysis, TableData, forms_of}
use Rattle.ide_store.specs.Versioned.{VersionedEntry}
use Rattle.ide_store.specs.declared.outbox.Ticket.{Ticket}
use Rattle.ide_text.specs.Parsed.{IsParsed}
use Rattle.ide_text.specs.Program.{value_of}
use Rattle.ide_text.specs.Value.{ProgramValue}
use Rattle.ide_text.specs.declared.program.Program.{Program}
use Rattle.ide_desks.specs.Desks.{last_sealed}

module _ {F L : Type 0} (a : Analysis F L) where
  -- the record is a load of a text of the program, in its version
  pub record SpellsLoad (v : ProgramValue) (r : VersionedEntry) : Type 0 where
    pub text : List ℕ
    pub program : Program
    pub parsed : IsParsed text program
    pub says : value_of program ≡ v
    pub spelled : IsEntryOf (forms_of a) r.0 (records.Load text) r.1

  -- the record is a root of that name
  abbrev pub SpellsRoot : (name : List ℕ) → VersionedEntry → Type 0
  SpellsRoot name r = IsEntryOf (forms_of a) r.0 (records.Root name) r.1

-- the record is one more of the client's own, under that number, which is not below what it has seen
pub record NotesOrder (old new : ClientView VersionedEntry) (number : ℕ) (r : VersionedEntry) : Type 0 where
  pub noted : new ≡ with_own old ((number, r) ∷ [])
  pub later : old.seen ≤ number

-- the last that waits, under the number that is answered
abbrev pub NotesLast : {F : Type 0} → (old new : ClientView VersionedEntry) → TableData F → Ticket → Type 0
NotesLast old new table ticket = NotesOrder old new ticket.number (last_sealed table)
