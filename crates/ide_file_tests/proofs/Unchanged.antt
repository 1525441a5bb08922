-- A call that was refused before the disk was asked: the disk is as it was, and a crash leaves no more than the call allows.
use Rattle.std.proofs.Common.{refl}
use Rattle.ide_disk.specs.Disk.{Change, CrashLeaves, LeavesAfter, LeavesAfterSync, settled}
use Rattle.ide_disk.specs.Kept.{keeps_more, keeps_left}
use Rattle.ide_disk.specs.Left.{possible_replay}
use Rattle.ide_disk.specs.Memory.{memory_state}
use Rattle.ide_disk.specs.declared.memory.MemDisk.{MemDisk}

-- what a read gives is something that a crash may leave
possible : (disk : MemDisk) → CrashLeaves (memory_state disk) (memory_state disk).now
possible disk = possible_replay disk.contents.calls.items disk.contents.written.items (settled disk.contents.start.items) refl

pub leaves-unchanged : (change : Change) (disk : MemDisk) → LeavesAfter change (memory_state disk) (memory_state disk)
leaves-unchanged change disk =
    let state = memory_state disk in
    record {
      leaves = λ left leaves. keeps_more state.synced change state.changes left (keeps_left state.synced state.changes left leaves);
      possible = possible disk;
    }

pub leaves_sync-unchanged : (disk : MemDisk) → LeavesAfterSync (memory_state disk) (memory_state disk)
leaves_sync-unchanged disk = record { leaves = λ left leaves. leaves; possible = possible disk }
