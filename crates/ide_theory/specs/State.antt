-- The state of a tabulation that many hands work on: the image, the keys that wait to be worked
-- off, and the claims of the hands.
use Rattle.std.specs.Prelude.{ℕ, Bool, true, false, ◌||◌, List, [], ◌∷◌, Option, Some, None, option_map, cond, nat_eq, unwrap_or}
use Rattle.ide_lattice.specs.Algebra.{EdgeAlgebra}
use Rattle.ide_wire.specs.Key.{same_key}
use Rattle.ide_wire.specs.declared.key.Key.{Key}
use Rattle.ide_theory.specs.Frame.{Frame}

-- a hand's claim: the key, the parts not yet done, each a key and the function that it receives, and
-- whether the claimed key was lowered since
pub record Claim (F : Type 0) : Type 0 where
  pub key : Key
  pub parts : List (Key × F)
  pub lowered : Bool

pub record State (F : Type 0) : Type 0 where
  pub get : Key → Option F
  pub pending : Key → Bool
  pub claims : ℕ → Option (Claim F)

-- the function, changed at one argument
abbrev pub put : {X T : Type 0} → (X → X → Bool) → (X → T) → X → T → X → T
put same f at value x = cond (same at x) value (f x)

-- nothing is present, pending or claimed
abbrev pub nothing_done : (F : Type 0) → State F
nothing_done F = record { get = λ _. None; pending = λ _. false; claims = λ _. None }

-- the list but for its first
abbrev pub rest_of : {T : Type 0} → List T → List T
rest_of [] = []
rest_of (x ∷ xs) = xs

abbrev pub without_first : {F : Type 0} → Claim F → Claim F
without_first c = record c { parts = rest_of c.parts }

-- the claim, marked as lowered if it is of the key
abbrev pub claim_marked : {F : Type 0} → Key → Claim F → Claim F
claim_marked t c = record c { lowered = same_key c.key t || c.lowered }

-- a claim of the key that owes the parts
abbrev pub new_claim : {F : Type 0} → Key → List (Key × F) → Claim F
new_claim q parts = record { key = q; parts = parts; lowered = false }

-- the hand has that claim, or none
abbrev pub with_claim : {F : Type 0} → State F → ℕ → Option (Claim F) → State F
with_claim s h c = record s { claims = put nat_eq s.claims h c }

-- the hand's first part is done
abbrev pub part_done : {F : Type 0} → State F → ℕ → State F
part_done s h = with_claim s h (option_map without_first (s.claims h))

-- the key has the function and is pending, and each claim of it is marked
abbrev pub with_function : {F : Type 0} → State F → Key → F → State F
with_function s t f = record {
  get = put same_key s.get t (Some f);
  pending = put same_key s.pending t true;
  claims = λ h. option_map (claim_marked t) (s.claims h);
}

-- the key receives the function
abbrev pub with_lowered : {F L : Type 0} → EdgeAlgebra F L → State F → Key → F → State F
with_lowered B s t g = with_function s t (B.meet (unwrap_or (s.get t) B.all_top) g)

abbrev pub lowered_in_frame : (K : Frame) → State K.F → Key → K.F → State K.F
lowered_in_frame K = with_lowered K.functions

-- the key becomes the identity, as one does that was absent
abbrev pub seeded : {F L : Type 0} → EdgeAlgebra F L → State F → Key → State F
seeded B s t = with_function s t B.id

abbrev pub seeded_at : (K : Frame) → State K.F → Key → State K.F
seeded_at K = seeded K.functions

-- the hand's claim is over, and its key is pending no more, unless it was lowered since
abbrev pub finished : {F : Type 0} → State F → ℕ → Claim F → State F
finished s h c = record { get = s.get; pending = put same_key s.pending c.key c.lowered; claims = put nat_eq s.claims h None }
