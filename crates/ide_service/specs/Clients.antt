-- What a client of a service orders, and why it is refused.
use Rattle.std.specs.Prelude.{ℕ, List}
use Rattle.ide_board.specs.Records.{ClientView}
use Rattle.ide_desks.specs.Orders.{NotesOrder, SpellsLoad}
use Rattle.ide_store.specs.Versioned.{VersionedEntry}
use Rattle.ide_store.specs.Table.{Analysis}
use Rattle.ide_store.specs.TableCalls.{IsLoadStop}
use Rattle.ide_text.specs.Parsed.{IsParsed, IsRefusalOf}
use Rattle.ide_text.specs.Program.{value_of}
use Rattle.ide_text.specs.declared.program.Program.{Program}
use Rattle.ide_wire.specs.declared.refused.Refused.{Refused}
use Rattle.ide_service.specs.Refusing.{IsRefusedIn}

-- the record of a command is one more of the client's own, under that number; and where that is told, it spells the command
pub record IsOrdered (Told : Type 0) (Spells : VersionedEntry → Type 0) (old new : ClientView VersionedEntry) (number : ℕ) : Type 0 where
  pub entry : VersionedEntry
  pub notes : NotesOrder old new number entry
  pub spells : Told → ∥ Spells entry ∥₁

-- the record is a load of the program that the text spells
pub record SpellsText {F L : Type 0} (a : Analysis F L) (text : List ℕ) (entry : VersionedEntry) : Type 0 where
  pub program : Program
  pub parsed : IsParsed text program
  pub loads : SpellsLoad a (value_of program) entry

-- why no program is loaded: the text is refused; or, over some image that was met under the lock, a load is
pub data IsTextRefusal (F : Type 0) (text : List ℕ) : Refused → Type 0 where
  not_parsed : {why : Refused} → IsRefusalOf text why → IsTextRefusal F text why
  not_loaded : {why : Refused} → IsRefusedIn {F = F} (λ table. IsLoadStop table) why → IsTextRefusal F text why
