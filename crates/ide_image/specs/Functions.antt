-- Functions that are kept, each under an index that stays.
use Rattle.std.specs.Prelude.{◌≡◌, ◌⊎◌, ℕ, ◌-◌, ◌^◌, ◌++◌, List, [], ◌∷◌, min}

-- the functions, and for how many more there is room
pub record Functions (F : Type 0) : Type 0 where
  pub items : List F
  pub room : ℕ

-- the functions that are kept stay, and this one may be kept behind them
abbrev pub MayKeep : {F : Type 0} → F → (old new : List F) → Type 0
MayKeep function old new = (new ≡ old) ⊎ (new ≡ old ++ function ∷ [])

-- for how many more there is room in a list of this length and capacity: 2^32 - 1 are kept at most
abbrev pub kept_room : (len capacity : ℕ) → ℕ
kept_room len capacity = min (capacity - len) (2 ^ 32 - 1 - len)
