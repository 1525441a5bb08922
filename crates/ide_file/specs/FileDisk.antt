-- What a disk over a file shows.
use Rattle.std.specs.Prelude.{◌≡◌, ℕ, false, List, length}
use Rattle.ide_disk.specs.Disk.{DiskState}
use Rattle.ide_disk.specs.Time.{next_count}
use Rattle.ide_file.specs.Length.{IsAsLong}
use Rattle.ide_file.specs.declared.backing.BackingFile.{Ghosts}
use Rattle.ide_file.specs.declared.disk.FileDisk.{FileDisk}

-- how long the file is
abbrev pub disk_size : {F : Type 0} {G : Ghosts F} → FileDisk F G → ℕ
disk_size disk = disk.size

-- what the file holds
abbrev pub disk_state : {F : Type 0} {G : Ghosts F} → FileDisk F G → DiskState
disk_state {G = G} disk = G.state disk.file

-- the file's moment
abbrev pub disk_moment : {F : Type 0} {G : Ghosts F} → FileDisk F G → ℕ
disk_moment {G = G} disk = G.moment disk.file

-- what a crash at some moment from that one on may have left of the file
abbrev pub disk_left_since : {F : Type 0} {G : Ghosts F} → FileDisk F G → ℕ → List ℕ → Type 0
disk_left_since {G = G} disk = G.left_since disk.file

-- how many calls were made
abbrev pub file_call_count : {F : Type 0} {G : Ghosts F} → FileDisk F G → ℕ
file_call_count disk = disk.calls

-- how many of them failed
abbrev pub file_failure_count : {F : Type 0} {G : Ghosts F} → FileDisk F G → ℕ
file_failure_count disk = disk.failures

-- no change was refused
abbrev pub IsWorking : {F : Type 0} {G : Ghosts F} → FileDisk F G → Type 0
IsWorking disk = disk.stopped ≡ false

-- the file is honest, as long as the disk knows, and as long as at the last sync where it was not resized
pub record IsSoundFile {F : Type 0} {G : Ghosts F} (disk : FileDisk F G) : Type 0 where
  pub file : G.honest disk.file
  pub whole : length (G.state disk.file).now ≡ disk.size
  pub synced : IsWorking disk → disk.resized ≡ false → IsAsLong (G.state disk.file)

-- one more failure is counted, and all else stays
pub record CountsFailure {F : Type 0} {G : Ghosts F} (old new : FileDisk F G) : Type 0 where
  pub failures : new.failures ≡ next_count old.failures
  pub calls : new.calls ≡ old.calls
  pub file : new.file ≡ old.file
  pub size : new.size ≡ old.size
  pub resized : new.resized ≡ old.resized
  pub stopped : new.stopped ≡ old.stopped
