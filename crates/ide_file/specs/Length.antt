-- How long a file is.
use Rattle.std.specs.Prelude.{◌≡◌, length}
use Rattle.ide_disk.specs.Disk.{DiskState}

-- as long as at the last sync
abbrev pub IsAsLong : DiskState → Type 0
IsAsLong disk = length disk.now ≡ length disk.synced
