-- How a journal stands on its disk.
use Rattle.std.specs.Prelude.{◌≡◌, ◌⊎◌, ℕ, ◌+◌, ◌<◌, List, ◌∷◌, ◌++◌, length}
use Rattle.ide_disk.specs.Disk.{settled}
use Rattle.ide_disk.specs.declared.disk.Disk.{Ghosts}
use Rattle.ide_journal.specs.Bytes.{Knows, EndsAt}
use Rattle.ide_journal.specs.declared.journal.Journal.{Journal}
use Rattle.ide_journal.specs.declared.version.Version.{Version}
use Rattle.ide_journal.specs.declared.stage.Stage.TheVariants.{Idle, Failed}

-- a record of these bytes behind its gate is under way, behind these others
pub record StandsAtGate {D : Type 0} {G : Ghosts D} (base bytes : List ℕ) (journal : Journal D G) : Type 0 where
  pub gate : journal.gate ≡ length base
  pub tail : journal.tail.items ≡ bytes
  pub some : 0 < length bytes
  pub end : EndsAt journal.stage journal.end (length base + length bytes)
  pub knows : Knows journal.stage base bytes (G.state journal.disk)

-- it is stored, and no record is under way
pub record IsStored {D : Type 0} {G : Ghosts D} (base bytes : List ℕ) (journal : Journal D G) : Type 0 where
  pub gate : journal.gate ≡ length base + length bytes
  pub stage : journal.stage ≡ Idle
  pub disk : G.state journal.disk ≡ settled (base ++ 1 ∷ bytes)
  pub count : journal.count ≡ journal.next

-- no record is under way
abbrev pub IsIdle : {D : Type 0} {G : Ghosts D} → Journal D G → Type 0
IsIdle journal = journal.stage ≡ Idle

-- a disk call failed
abbrev pub HasFailed : {D : Type 0} {G : Ghosts D} → Journal D G → Type 0
HasFailed journal = journal.stage ≡ Failed

-- it is under way behind the same bytes still, or is stored
abbrev pub Moves : {D : Type 0} {G : Ghosts D} → List ℕ → List ℕ → Journal D G → Type 0
Moves base bytes journal = (StandsAtGate base bytes journal × (IsIdle journal → ⊥)) ⊎ IsStored base bytes journal

-- whatever record is under way stays so
abbrev pub KeepsStanding : {D : Type 0} {G : Ghosts D} → Journal D G → Journal D G → Type 0
KeepsStanding old new = (base bytes : List ℕ) → StandsAtGate base bytes old → StandsAtGate base bytes new

-- whatever record is under way is stored
abbrev pub StoresStanding : {D : Type 0} {G : Ghosts D} → Journal D G → Journal D G → Type 0
StoresStanding old new = (base bytes : List ℕ) → StandsAtGate base bytes old → IsStored base bytes new

-- whatever record is under way stays so, or is stored
abbrev pub MovesStanding : {D : Type 0} {G : Ghosts D} → Journal D G → Journal D G → Type 0
MovesStanding old new = (base bytes : List ℕ) → StandsAtGate base bytes old → Moves base bytes new

-- how many records are stored and are to be, and the version, are the same
pub record KeepsCounts {D : Type 0} {G : Ghosts D} (old new : Journal D G) : Type 0 where
  pub count : new.count ≡ old.count
  pub next : new.next ≡ old.next
  pub version : new.version ≡ old.version

-- how many records are stored
abbrev pub stored_count : {D : Type 0} {G : Ghosts D} → Journal D G → ℕ
stored_count journal = journal.count

-- the version of the store
abbrev pub version_of : {D : Type 0} {G : Ghosts D} → Journal D G → Version
version_of journal = journal.version
