-- What every call of a disk does, for those who make it.
use Rattle.std.specs.Prelude.{◌≡◌, Result}
use Rattle.ide_disk.specs.Time.{Elapses, next_count, failures_after}
use Rattle.ide_disk.specs.declared.disk.Disk.{Ghosts}

-- one call was made: it is counted, as a failure where it failed; an honest disk stays so, and its time goes on
pub record MakesCall {D T E : Type 0} (G : Ghosts D) (result : Result T E) (old new : D) : Type 0 where
  pub calls : G.calls new ≡ next_count (G.calls old)
  pub failures : G.failures new ≡ failures_after result (G.failures old)
  pub honest : G.honest old → G.honest new
  pub time : G.honest old → Elapses G.moment G.left_since G.state old new

-- one call more has failed
abbrev pub FailsOnce : {D : Type 0} → Ghosts D → D → D → Type 0
FailsOnce G old new = G.failures new ≡ next_count (G.failures old)
