-- A call of one disk, to the letter.
use Rattle.std.specs.Prelude.{◌≡◌, OnOk, Result}
use Rattle.ide_disk.specs.OneCall.{MakesCall}
use Rattle.ide_disk.specs.declared.disk.Disk.{Ghosts}
use Rattle.ide_slots.specs.DiskCalls.{DiskCall, FailsSo, after_disk_call}

-- no call of the disk failed
abbrev pub FailsNoCall : {D : Type 0} → Ghosts D → (old new : D) → Type 0
FailsNoCall G old new = G.failures new ≡ G.failures old

-- this call was made; good or failed, a crash leaves no more than it allows
pub record MakesDiskCall {D T E : Type 0} (G : Ghosts D) (call : DiskCall) (result : Result T E) (old new : D) : Type 0 where
  pub counted : MakesCall G result old new
  pub good : G.honest old → OnOk result (G.state new ≡ after_disk_call call (G.state old))
  pub leaves : G.honest old → FailsSo call (G.state old) (G.state new)
