-- What contracts say of pending keys and of claims: which keys are pending, and which hand has which claim.
use Rattle.std.specs.Prelude.{◌≡◌, ℕ, Bool, true, false, ◌&&◌, not, List, Option, None, Some, nat_eq, if◌then◌else◌}
use Rattle.std.specs.List.{list_any, slice_index_or}
use Rattle.ide_wire.specs.declared.key.Key.{Key}
use Rattle.ide_wire.specs.Key.{same_key}
use Rattle.ide_image.specs.declared.claim.Claim.{Claim}

-- the pending keys, and the claim of each hand from 0 on
pub record Pile (T : Type 0) : Type 0 where
  pub pending : List Key
  pub claims : List (Option (Claim T))

-- whether it is the claim of the key
abbrev pub is_claim_of : {T : Type 0} → Key → Option (Claim T) → Bool
is_claim_of key None = false
is_claim_of key (Some claim) = same_key claim.key key

-- whether the key is pending
abbrev pub is_pending : {T : Type 0} → Pile T → Key → Bool
is_pending pile key = list_any (same_key key) pile.pending

-- whether some hand has claimed the key
abbrev pub is_claimed : {T : Type 0} → Pile T → Key → Bool
is_claimed pile key = list_any (is_claim_of key) pile.claims

-- the claim of the hand
abbrev pub claim_at : {T : Type 0} → Pile T → ℕ → Option (Claim T)
claim_at pile hand = slice_index_or pile.claims hand None

-- no hand has a claim
abbrev pub IsFree : {T : Type 0} → Pile T → Type 0
IsFree pile = (hand : ℕ) → claim_at pile hand ≡ None

-- the claims, with that of one hand replaced
abbrev pub put_hand : {T : Type 0} → (ℕ → Option (Claim T)) → ℕ → Option (Claim T) → ℕ → Option (Claim T)
put_hand claims hand claim h = if nat_eq hand h then claim else claims h

-- the claim of a hand, in a list of them
abbrev pub claim_in : {T : Type 0} → List (Option (Claim T)) → ℕ → Option (Claim T)
claim_in claims hand = slice_index_or claims hand None

-- the hand's claim is this one now, and every other hand's is as it was
abbrev pub PutsClaim : {T : Type 0} → ℕ → Option (Claim T) → (old new : Pile T) → Type 0
PutsClaim hand claim old new = (h : ℕ) → claim_at new h ≡ put_hand (claim_at old) hand claim h

-- the same of a list of claims
abbrev pub PutsIn : {T : Type 0} → ℕ → Option (Claim T) → (old new : List (Option (Claim T))) → Type 0
PutsIn hand claim old new = (h : ℕ) → claim_in new h ≡ put_hand (λ j. claim_in old j) hand claim h

-- a claim of the key with its task, of which nothing is done
abbrev pub begun : {T : Type 0} → Key → T → Claim T
begun key task = record { key = key; task = task; done = 0; lowered = false }

-- the claim, marked as lowered if it is of the key
abbrev pub marked : {T : Type 0} → Key → Option (Claim T) → Option (Claim T)
marked key None = None
marked key (Some claim) = if same_key claim.key key then Some (record claim { lowered = true }) else Some claim

-- the same of a list of claims
abbrev pub MarksIn : {T : Type 0} → Key → (old new : List (Option (Claim T))) → Type 0
MarksIn key old new = (h : ℕ) → claim_in new h ≡ marked key (claim_in old h)

-- the claim with so many parts done
abbrev pub with_done : {T : Type 0} → ℕ → Option (Claim T) → Option (Claim T)
with_done count None = None
with_done count (Some claim) = Some (record claim { done = count })

-- the same of a list of claims
abbrev pub SetsDoneIn : {T : Type 0} → ℕ → ℕ → (old new : List (Option (Claim T))) → Type 0
SetsDoneIn hand count old new = PutsIn hand (with_done count (claim_in old hand)) old new

-- whether the claim's end takes the key out of the pending ones: it is of the key, which was not lowered since
abbrev pub ends : {T : Type 0} → Option (Claim T) → Key → Bool
ends None key = false
ends (Some claim) key = not claim.lowered && same_key claim.key key

-- whether the claim's end takes its key out
abbrev pub ends_key : {T : Type 0} → Option (Claim T) → Bool
ends_key None = false
ends_key (Some claim) = not claim.lowered

-- each claim is of a pending key, and no two hands claim one key
pub record AreHeld {T : Type 0} (pending : Key → Bool) (claims : ℕ → Option (Claim T)) : Type 0 where
  pub held : (h : ℕ) (c : Claim T) → claims h ≡ Some c → pending c.key ≡ true
  pub apart : (h j : ℕ) (c d : Claim T) → claims h ≡ Some c → claims j ≡ Some d → same_key c.key d.key ≡ true → h ≡ j

abbrev pub IsWorklist : {T : Type 0} → Pile T → Type 0
IsWorklist pile = AreHeld (is_pending pile) (claim_at pile)
