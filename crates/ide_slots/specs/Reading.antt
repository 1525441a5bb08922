-- Slots as they are read.
use Rattle.std.specs.Prelude.{◌≡◌, ◌≢◌, ℕ, ◌≤◌, List, ◌++◌}
use Rattle.std.specs.Int.{w64, to_le_bytes}
use Rattle.ide_slots.specs.Slot.{IsValidHead, SlotHead, slot_header}

-- the bytes begin with a valid first page, which tells this
pub record Tells (told : SlotHead) (bytes : List ℕ) : Type 0 where
  pub valid : IsValidHead told
  pub rest : List ℕ
  pub split : bytes ≡ slot_header told ++ rest

-- they begin with none
abbrev pub TellsNothing : List ℕ → Type 0
TellsNothing bytes = (told : SlotHead) → Tells told bytes → ⊥

-- eight bytes are of no number of 32 bits
abbrev pub IsNoShortNumber : List ℕ → Type 0
IsNoShortNumber bytes = (number : ℕ) → number ≤ 4294967295 → bytes ≢ to_le_bytes w64 number
