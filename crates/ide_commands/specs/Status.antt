-- How far a store has come, and how that is printed.
use Rattle.std.specs.Global.{Vec}
use Rattle.std.specs.Prelude.{◌≡◌, ◌++◌, ℕ, Bool, List, codes, if◌then◌else◌, is_some, length}
use Rattle.ide_disk.specs.declared.disk.Disk.{Ghosts}
use Rattle.ide_slot_journal.specs.Stands.{records_stored}
use Rattle.ide_slot_store.specs.Sizes.{bytes_of}
use Rattle.ide_slot_store.specs.declared.writer.SlotWriterHalf.{SlotWriterHalf}
use Rattle.ide_store.specs.Table.{TableData}
use Rattle.ide_commands.specs.Lines.{number_line, version_number}
use Rattle.ide_commands.specs.declared.status.Status.{Status}

-- the counts are those of the store
pub record IsStatusOf {F D : Type 0} {G : Ghosts D} (table : TableData F) (writer : SlotWriterHalf D G) (status : Status) : Type 0 where
  pub program : status.has_program ≡ is_some table.core.program
  pub roots : status.roots ≡ length table.core.roots
  pub keys : status.keys ≡ length table.core.table.entries
  pub pending : status.pending ≡ length table.core.pile.pending
  pub records : status.records ≡ records_stored writer.journal
  pub bytes : status.bytes ≡ bytes_of writer
  pub generation : status.generation ≡ writer.journal.generation
  pub base : status.base ≡ writer.journal.base
  pub version : status.version ≡ version_number writer.journal.version

-- whether there is a program
abbrev pub program_line : Bool → List ℕ
program_line has = if has then codes "program yes\n" else codes "program no\n"

-- a line for each count: of the image, and then of the slots
abbrev pub image_lines : Status → List ℕ
image_lines s =
    program_line s.has_program
    ++ (number_line (codes "roots ") s.roots ++ (number_line (codes "keys ") s.keys ++ number_line (codes "pending ") s.pending))

abbrev pub slot_lines : Status → List ℕ
slot_lines s =
    number_line (codes "records ") s.records
    ++ (number_line (codes "bytes ") s.bytes ++ (number_line (codes "generation ") s.generation
    ++ (number_line (codes "base ") s.base ++ number_line (codes "version ") s.version)))

abbrev pub status_lines : Status → List ℕ
status_lines s = image_lines s ++ slot_lines s

-- the counts of the store are printed
abbrev pub PrintsStatus : {F D : Type 0} {G : Ghosts D} → TableData F → SlotWriterHalf D G → (old new : Vec ℕ) → Type 0
PrintsStatus table writer old new = (status : Status) × IsStatusOf table writer status × (new.items ≡ old.items ++ status_lines status)
