-- What a command on a store in two files prints.
use Rattle.std.specs.Global.{Vec}
use Rattle.std.specs.Prelude.{ℕ, Bool, List, Option, Result, IfOk, codes}
use Rattle.std.specs.contracts.fs.File.{the_row as file_row}
use Rattle.std.specs.declared.fs.File.{File}
use Rattle.ide_commands.specs.Asked.{Dumps, WritesText}
use Rattle.ide_commands.specs.Obeyed.{Obeys}
use Rattle.ide_commands.specs.Stored.{PrintsQuiet}
use Rattle.ide_commands.specs.declared.stores.Store.{Store}
use Rattle.ide_commands.specs.declared.stores.Store.TheVariants.{Uninit, Copy, Shift}
use Rattle.ide_disk.specs.declared.disk.Disk.{Ghosts}
use Rattle.ide_file.specs.contracts.disk.FileDiskDisk.TheImpl.{ghosts as disk_over}
use Rattle.ide_file.specs.contracts.system.FileBackingFile.TheImpl.{dict as file_calls, ghosts as file}
use Rattle.ide_file.specs.declared.disk.FileDisk.{FileDisk}
use Rattle.ide_instances.specs.ConstValue.{shown_constant}
use Rattle.ide_instances.specs.UninitValue.{shown_uninit}
use Rattle.ide_slot_store.specs.Working.{WorksAll}
use Rattle.ide_slot_store.specs.declared.engine.SlotEngine.{SlotEngine}
use Rattle.ide_store.specs.Table.{Analysis}
use Rattle.ide_words.specs.declared.words.StoreCommand.{StoreCommand}
use Rattle.ide_words.specs.declared.words.StoreCommand.TheVariants.{Work}
use Rattle.ide_cli.specs.Analyses.{copy_analysis, shift_analysis, uninit_analysis}

-- the lines of a store that was made, and of one that was adopted
abbrev pub created_line : List ℕ
created_line = codes "created\n"

abbrev pub adopted_line : List ℕ
adopted_line = codes "adopted\n"

-- what hands left of an engine is done, all of it is stored, and the line of a quiet store is printed
abbrev pub EndsWork : {F L : Type 0} → Analysis F L → {P D : Type 0} {G : Ghosts D} → SlotEngine P D L F G → (old new : Vec ℕ) → Type 0
EndsWork {F} {L} a {P} {D} {G} left old new = (after : SlotEngine P D L F G) × PrintsQuiet (WorksAll a left after) old new

-- an open store in two files of the system
abbrev pub OpenStore : Type 0
OpenStore = Store (FileDisk File file) (disk_over file_row file file_calls)

-- the command does with the store what one of its analysis does, and prints what that came to
abbrev pub ObeysOver : OpenStore → StoreCommand → List ℕ → (old new : Vec ℕ) → Type 0
ObeysOver (Uninit engine) command text old new = Obeys uninit_analysis shown_uninit engine command text old new
ObeysOver (Copy engine) command text old new = Obeys copy_analysis shown_constant engine command text old new
ObeysOver (Shift engine) command text old new = Obeys shift_analysis shown_constant engine command text old new

-- the text is the dump of the store's values
abbrev pub DumpsOver : OpenStore → List ℕ → Type 0
DumpsOver (Uninit engine) text = Dumps uninit_analysis shown_uninit engine.table text
DumpsOver (Copy engine) text = Dumps copy_analysis shown_constant engine.table text
DumpsOver (Shift engine) text = Dumps shift_analysis shown_constant engine.table text

-- where that was not refused, the dump of the store is written, if the output did not fail. What that has had written to it is
-- known at each moment
abbrev pub WritesDumpOver : {T E X O : Type 0} → OpenStore → Result (Result T E) X → (O → Option (List ℕ)) → (before after : O) → Type 0
WritesDumpOver store result contents before after =
    IfOk result (λ end. WritesText (DumpsOver store) end (contents before) (contents after))

-- and so is that of some open store
abbrev pub WritesStoreDump : {T E X O : Type 0} → Result (Result T E) X → (O → Option (List ℕ)) → (before after : O) → Type 0
WritesStoreDump result contents before after =
    IfOk result (λ end. (store : OpenStore) × WritesText (DumpsOver store) end (contents before) (contents after))

-- over some open store, and some text where one is to be loaded. Of `work` it is the store that the hands left
abbrev pub IsObeyed : StoreCommand → (old new : Vec ℕ) → Type 0
IsObeyed command old new = (store : OpenStore) × (text : List ℕ) × ObeysOver store command text old new

-- the hands' work, so many of them and with a checkpoint each so many records, and whether they told how far they had come or not
abbrev pub IsWorked : (workers every : ℕ) → (old new : Vec ℕ) → Type 0
IsWorked workers every old new = (quiet : Bool) → IsObeyed (Work workers quiet every) old new
