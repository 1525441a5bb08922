-- What the commands that change a store do with it, and what they print.
use Rattle.std.specs.Global.{Vec}
use Rattle.std.specs.Prelude.{◌≡◌, ◌++◌, ℕ, Bool, List, [], Ok, codes}
use Rattle.ide_disk.specs.declared.disk.Disk.{Ghosts}
use Rattle.ide_journal.specs.declared.version.Version.TheVariants.{One, Two}
use Rattle.ide_store.specs.Table.{Analysis, TableData}
use Rattle.ide_store.specs.TableCalls.{BeginsRoot, LoadsProgram}
use Rattle.ide_slot_journal.specs.Stands.{IsFilling}
use Rattle.ide_slot_store.specs.Asking.{AsksOver}
use Rattle.ide_slot_store.specs.Storing.{StoreAll}
use Rattle.ide_slot_store.specs.Working.{WorksAll}
use Rattle.ide_slot_store.specs.declared.engine.SlotEngine.{SlotEngine}
use Rattle.ide_text.specs.Parsed.{IsParsed}
use Rattle.ide_text.specs.Program.{value_of}
use Rattle.ide_text.specs.declared.program.Program.{Program}
use Rattle.ide_commands.specs.Lines.{generation_line, stored_line, version_line}

-- the line of a store in which nothing is pending
abbrev pub quiet_line : List ℕ
quiet_line = codes "quiet\n"

-- the call answered the number, and its line is printed
abbrev pub PrintsStored : (ℕ → Type 0) → (old new : Vec ℕ) → Type 0
PrintsStored Call old new = (number : ℕ) × Call number × (new.items ≡ old.items ++ stored_line number)

-- the work was done, and the line of a quiet store is printed
abbrev pub PrintsQuiet : Type 0 → (old new : Vec ℕ) → Type 0
PrintsQuiet Works old new = Works × (new.items ≡ old.items ++ quiet_line)

module _ {P D L F : Type 0} {G : Ghosts D} (engine : SlotEngine P D L F G) (old new : Vec ℕ) where
  -- the line of the generation of the current slot is printed, and that of its version
  abbrev pub PrintsGeneration : Type 0
  PrintsGeneration = new.items ≡ old.items ++ generation_line engine.writer.journal.generation

  abbrev pub PrintsVersion : Type 0
  PrintsVersion = new.items ≡ old.items ++ version_line engine.writer.journal.version

module _ {F L : Type 0} (a : Analysis F L) {P D : Type 0} {G : Ghosts D} (old new : SlotEngine P D L F G) where
  -- the program that the text spells is loaded, with that number, and then all that was sealed is stored
  pub record StoresText (text : List ℕ) (number : ℕ) : Type 0 where
    pub program : Program
    pub parsed : IsParsed text program
    pub loaded : TableData F
    pub loads : LoadsProgram a (value_of program) old.table loaded number
    pub stores : StoreAll a loaded new.table old.writer new.writer

  -- the procedure of that name becomes a root, with that number, and then all that was sealed is stored
  pub record MakesRoot (name : List ℕ) (number : ℕ) : Type 0 where
    pub rooted : TableData F
    pub begins : BeginsRoot a name old.table rooted number
    pub stores : StoreAll a rooted new.table old.writer new.writer

  -- all that was pending is done and stored, and the line of a quiet store is printed
  abbrev pub EndsQuiet : (before after : Vec ℕ) → Type 0
  EndsQuiet before after = PrintsQuiet (WorksAll a old new) before after

  -- a checkpoint is asked for, and then all that was sealed is stored, until no call of a checkpoint is left to make
  pub record MakesCheckpoint : Type 0 where
    pub begun : Bool
    pub asked : SlotEngine P D L F G
    pub asks : (tag : ℕ) → AsksOver a tag old.table asked.table old.writer asked.writer (Ok begun)
    pub stores : StoreAll a asked.table new.table asked.writer new.writer
    pub rests : IsFilling new.writer.journal → ⊥

  -- where the current slot is of the first version; and else nothing is done
  pub data Migrates : Type 0 where
    is_old : old.writer.journal.version ≡ One → MakesCheckpoint → Migrates
    is_new : old.writer.journal.version ≡ Two → new ≡ old → Migrates
