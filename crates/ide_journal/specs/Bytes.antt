-- What the disk holds at each stage of one record, and what a crash leaves then.
use Rattle.std.specs.Prelude.{◌≡◌, ◌≢◌, ◌⊎◌, ℕ, ◌+◌, List, [], ◌∷◌, ◌++◌, length}
use Rattle.ide_disk.specs.Disk.{DiskState, Wrote, CrashLeaves, settled}
use Rattle.ide_journal.specs.declared.stage.Stage.{Stage}
use Rattle.ide_journal.specs.declared.stage.Stage.TheVariants.{Idle, Begun, Written, BodySynced, GateWritten, Failed}

-- what stood before the gate, and a closed gate behind it
pub record IsBefore (base left : List ℕ) : Type 0 where
  pub rest : List ℕ
  pub split : left ≡ base ++ 0 ∷ rest

-- what stood before the gate, an open gate, and the record behind it
pub record IsAfter (base tail left : List ℕ) : Type 0 where
  pub gate : ℕ
  pub rest : List ℕ
  pub opened : gate ≢ 0
  pub split : left ≡ base ++ gate ∷ tail ++ rest

-- the one or the other
abbrev pub IsBeforeOrAfter : List ℕ → List ℕ → List ℕ → Type 0
IsBeforeOrAfter base tail left = IsBefore base left ⊎ IsAfter base tail left

-- what is known of the disk at a stage: base is all before the gate, tail all behind it
abbrev pub Knows : Stage → List ℕ → List ℕ → DiskState → Type 0
Knows Idle base tail disk = disk ≡ settled (base ++ 0 ∷ [])
Knows Begun base tail disk = disk ≡ settled (base ++ 0 ∷ [])
Knows Written base tail disk =
    disk ≡ record { synced = base ++ 0 ∷ []; changes = Wrote (length base + 1) (length tail) ∷ []; now = base ++ 0 ∷ tail }
Knows BodySynced base tail disk = disk ≡ settled (base ++ 0 ∷ tail)
Knows GateWritten base tail disk =
    disk ≡ record { synced = base ++ 0 ∷ tail; changes = Wrote (length base) 1 ∷ []; now = base ++ 1 ∷ tail }
Knows Failed base tail disk = (left : List ℕ) → CrashLeaves disk left → IsBeforeOrAfter base tail left

-- the record ends there, once it is written
abbrev pub EndsAt : Stage → ℕ → ℕ → Type 0
EndsAt Idle end place = Unit {0}
EndsAt Begun end place = Unit {0}
EndsAt Written end place = end ≡ place
EndsAt BodySynced end place = end ≡ place
EndsAt GateWritten end place = end ≡ place
EndsAt Failed end place = Unit {0}
