-- Walks along valid paths: their open calls, and the environments that they bring.
use Rattle.std.specs.Global.{Vec}
use Rattle.std.specs.Prelude.{◌≡◌, ◌≢◌, ◌++◌, ◌∷◌, [], ℕ, List}

-- the open calls are these, and then that one
abbrev pub LeavesCall : Vec ℕ → ℕ → Vec ℕ → Type 0
LeavesCall before call calls = before.items ≡ calls.items ++ call ∷ []

-- the latest of the open calls is not that one
abbrev pub HasOtherLatest : Vec ℕ → ℕ → Type 0
HasOtherLatest before call = (calls : List ℕ) → before.items ≢ calls ++ call ∷ []

-- both environments bring the same values
abbrev pub BringSame : {L : Type 0} → (one other : Vec L) → Type 0
BringSame one other = one.items ≡ other.items
