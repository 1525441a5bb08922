-- What a command on a store does with it, and what it prints.
use Rattle.std.specs.Global.{Vec}
use Rattle.std.specs.Prelude.{ℕ, List}
use Rattle.ide_disk.specs.declared.disk.Disk.{Ghosts}
use Rattle.ide_store.specs.Table.{Analysis}
use Rattle.ide_slot_store.specs.declared.engine.SlotEngine.{SlotEngine}
use Rattle.ide_words.specs.declared.words.StoreCommand.{StoreCommand}
use Rattle.ide_words.specs.declared.words.StoreCommand.TheVariants.{Load, Root, Work, Checkpoint, Migrate, Ask, Dump, Status}
use Rattle.ide_commands.specs.Asked.{Answers, Prints, PrintsDump}
use Rattle.ide_commands.specs.Status.{PrintsStatus}
use Rattle.ide_commands.specs.Stored.{EndsQuiet, MakesCheckpoint, MakesRoot, Migrates, PrintsGeneration, PrintsStored, PrintsVersion, StoresText}

-- a command that changes the store leaves it as its calls do, and prints what they came to; one that asks prints what the
-- store has. The text is that of the file that is to be loaded
abbrev pub Obeys : {F L : Type 0} → Analysis F L → (L → List ℕ) → {P D : Type 0} {G : Ghosts D} → SlotEngine P D L F G → StoreCommand
    → List ℕ → (old new : Vec ℕ) → Type 0
Obeys {F} {L} a shown {P} {D} {G} engine (Load file) text old new =
    (after : SlotEngine P D L F G) × PrintsStored (StoresText a engine after text) old new
Obeys {F} {L} a shown {P} {D} {G} engine (Root procedure) text old new =
    (after : SlotEngine P D L F G) × PrintsStored (MakesRoot a engine after procedure.now) old new
Obeys {F} {L} a shown {P} {D} {G} engine (Work workers quiet checkpoint_every) text old new =
    (after : SlotEngine P D L F G) × EndsQuiet a engine after old new
Obeys {F} {L} a shown {P} {D} {G} engine Checkpoint text old new =
    (after : SlotEngine P D L F G) × MakesCheckpoint a engine after × PrintsGeneration after old new
Obeys {F} {L} a shown {P} {D} {G} engine Migrate text old new =
    (after : SlotEngine P D L F G) × Migrates a engine after × PrintsVersion after old new
Obeys a shown engine (Ask procedure position fact) text old new =
    Prints (Answers a shown engine.table procedure.now position fact.now) old new
Obeys a shown engine Dump text old new = PrintsDump a shown engine.table old new
Obeys a shown engine Status text old new = PrintsStatus engine.table engine.writer old new
