-- What a crash at any moment leaves.
use Rattle.std.specs.Prelude.{◌≡◌, ◌⊎◌, ℕ, ◌≤◌, List}
use Rattle.ide_disk.specs.Disk.{CrashLeaves}
use Rattle.ide_disk.specs.declared.disk.Disk.{Ghosts}

-- a crash at some moment since old leaves bytes of which P holds
pub record LeavesOnly {D : Type 0} (G : Ghosts D) (old new : D) (P : List ℕ → Type 0) : Type 0 where
  pub later : G.moment old ≤ G.moment new
  pub each : (left : List ℕ) → G.left_since new (G.moment old) left → P left
  -- for a run that began earlier
  pub before : (t : ℕ) (left : List ℕ) → t ≤ G.moment old → G.left_since new t left → G.left_since old t left ⊎ P left

-- a crash at any moment since old leaves no more than one at its beginning
abbrev pub LeavesNoMore : {D : Type 0} → Ghosts D → D → D → Type 0
LeavesNoMore G old new = LeavesOnly G old new (CrashLeaves (G.state old))

-- the disk was looked at: it is as it was, and a crash at any moment leaves no more than one before
pub record OnlyLooks {D : Type 0} (G : Ghosts D) (old new : D) : Type 0 where
  pub size : G.size new ≡ G.size old
  pub state : G.honest old → G.state new ≡ G.state old
  pub honest : G.honest old → G.honest new
  pub any_moment : G.honest old → LeavesNoMore G old new
