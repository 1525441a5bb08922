-- What a crash at any moment leaves of two disks.
use Rattle.std.specs.Prelude.{List, ℕ}
use Rattle.ide_disk.specs.Disk.{DiskState}
use Rattle.ide_disk.specs.declared.disk.Disk.{Ghosts}
use Rattle.ide_slots.specs.Sides.{Sides}
use Rattle.ide_slots.specs.Two.{LeavesTwo}

-- a crash of both at some moment since old leaves bytes of which P holds; what is told of each disk is told of it alone
abbrev pub LeavesOnlyTwo : {D : Type 0} → Ghosts D → (old new : Sides D) → (Sides (List ℕ) → Type 0) → Type 0
LeavesOnlyTwo G old new P =
    (left : Sides (List ℕ)) → G.left_since new.a (G.moment old.a) left.a → G.left_since new.b (G.moment old.b) left.b → P left

-- a crash at some moment of a call leaves of both what one before the call may leave, or what one within it may
pub data LeavesInCall (disks : Sides DiskState) (Within : Sides (List ℕ) → Type 0) (left : Sides (List ℕ)) : Type 0 where
  before_call : LeavesTwo disks left → LeavesInCall disks Within left
  within_call : Within left → LeavesInCall disks Within left
