-- How many the steps of a run are: claims beside keys that are pending, lowerings beside ranks.
use Rattle.std.specs.Prelude.{◌≡◌, ◌≢◌, ℕ, ◌+◌, ◌-◌, ◌*◌, ◌≤◌, Bool, true, false, ◌&&◌, not, List, [], ◌∷◌, Option, Some, length, filter}
use Rattle.std.specs.List.{IsDistinct}
use Rattle.ide_wire.specs.Key.{same_key}
use Rattle.ide_wire.specs.declared.key.Key.{Key}
use Rattle.ide_theory.specs.Frame.{Frame}
use Rattle.ide_theory.specs.Image.{function_of}
use Rattle.ide_theory.specs.Member.{IsIn}
use Rattle.ide_theory.specs.Run.{Run, Steps, claims_in, lowerings_in, releases_in, seeds_in}
use Rattle.ide_theory.specs.State.{Claim, State}

-- the list has each pending key once
pub record HasPending {F : Type 0} (s : State F) (keys : List Key) : Type 0 where
  pub once : IsDistinct same_key keys
  pub all : (key : Key) → s.pending key ≡ true → IsIn key keys

-- how many of the keys are pending
abbrev pub pending_of : {F : Type 0} → State F → List Key → ℕ
pending_of s keys = length (filter s.pending keys)

-- the test finds each key that a hand has, where it was not lowered since
abbrev pub FindsClaimed : {F : Type 0} → State F → (Key → Bool) → Type 0
FindsClaimed {F} s is_claimed = (h : ℕ) (c : Claim F) → s.claims h ≡ Some c → c.lowered ≡ false → is_claimed c.key ≡ true

-- how many of the keys are pending, but for those that the test finds
abbrev pub waiting_of : {F : Type 0} → State F → (Key → Bool) → List Key → ℕ
waiting_of s is_claimed keys = length (filter (λ key. s.pending key && not (is_claimed key)) keys)

-- how far the functions of the keys have fallen below the always-top function
abbrev pub spent_on : (K : Frame) → (Key → Option K.F) → List Key → ℕ
spent_on K get [] = 0
spent_on K get (key ∷ keys) = K.functions.height - K.functions.rank (function_of K get key) + spent_on K get keys

module _ (K : Frame) where
  open K use {F, functions}

  -- each claim is paid by a key that waits no more, by a lowering, by a claim that was given back, or by
  -- the entry of a root
  abbrev pub AreClaimsPaid : Type 0
  AreClaimsPaid =
      (s t : State F) → Run K s → (way : Steps K s t) → (keys : List Key) → HasPending s keys → (is_claimed : Key → Bool) → FindsClaimed t is_claimed
      → claims_in way + waiting_of t is_claimed keys ≤ pending_of s keys + lowerings_in way + releases_in way + seeds_in way

  -- each lowering is paid by a rank that a function lost, and so is each entry of a root where the
  -- identity is not always-top
  pub record AreLoweringsFew : Type 0 where
    pub lowerings : (s t : State F) → Run K s → (way : Steps K s t) → (keys : List Key) → ((key : Key) (f : F) → t.get key ≡ Some f → IsIn key keys)
        → lowerings_in way + spent_on K s.get keys ≤ spent_on K t.get keys
    pub seeds : functions.all_top ≢ functions.id → (s t : State F) → Run K s → (way : Steps K s t) → (keys : List Key)
        → ((key : Key) (f : F) → t.get key ≡ Some f → IsIn key keys)
        → lowerings_in way + seeds_in way + spent_on K s.get keys ≤ spent_on K t.get keys
    pub spent : (get : Key → Option F) (keys : List Key) → spent_on K get keys ≤ length keys * functions.height
