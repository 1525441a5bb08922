-- Why values are refused.
use Rattle.std.specs.Prelude.{◌≡◌, ℕ, ◌<◌, ◌≤◌}
use Rattle.ide_wire.specs.declared.refused.Refused.{Refused}
use Rattle.ide_wire.specs.declared.refused.Refused.TheVariants.{Limit, NoMemory}

-- there are workers, and no more of them than hands
pub record AreWorkers (workers : ℕ) : Type 0 where
  pub some : 0 < workers
  pub most : workers ≤ 64

-- there is no worker, or there are too many; or there are workers, and memory is wanting
pub data IsValuesRefusal (workers : ℕ) : Refused → Type 0 where
  no_worker : workers ≡ 0 → IsValuesRefusal workers Limit
  too_many : 64 < workers → IsValuesRefusal workers Limit
  memory : AreWorkers workers → IsValuesRefusal workers NoMemory
