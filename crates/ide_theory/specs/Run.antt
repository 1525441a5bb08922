-- Runs of the tabulation, by any number of hands in any order.
use Rattle.std.specs.Prelude.{◌≡◌, ◌≢◌, ℕ, ◌+◌, ◌<◌, true, false, List, [], ◌∷◌, Option, Some, None}
use Rattle.ide_wire.specs.declared.key.Key.{Key}
use Rattle.ide_wire.specs.declared.key.Key.TheVariants.{Jump}
use Rattle.ide_theory.specs.Frame.{Frame}
use Rattle.ide_theory.specs.Member.{IsIn}
use Rattle.ide_theory.specs.Image.{Instance, IsMet}
use Rattle.ide_theory.specs.State.{Claim, State, nothing_done, new_claim, with_claim, part_done, lowered_in_frame, seeded_at, finished}

-- the parts that a claim of the key owes: what each instance with the key gives, and nothing else
pub record ArePartsOf (K : Frame) (get : Key → Option K.F) (q : Key) (parts : List (Key × K.F)) : Type 0 where
  pub complete : (ks : List Key) (k : Key) (g : K.F) → Instance K get ks k g → IsIn q ks → IsIn {T = Key × K.F} (k, g) parts
  pub right : (k : Key) (g : K.F) → IsIn {T = Key × K.F} (k, g) parts → (ks : List Key) × Instance K get ks k g

-- one step: a hand claims a pending key that no hand has, does its first part, which is met or
-- lowers a key, gives its claim back, or ends it with no part left; or at the start of a procedure the
-- entry of a fact, which was absent, becomes the identity
pub data Step (K : Frame) : State K.F → State K.F → Type 0 where
  claim : {s : State K.F} → (h : ℕ) (q : Key) (parts : List (Key × K.F)) → s.claims h ≡ None → s.pending q ≡ true
      → ((j : ℕ) (c : Claim K.F) → s.claims j ≡ Some c → c.key ≢ q) → ArePartsOf K s.get q parts
      → Step K s (with_claim s h (Some (new_claim q parts)))
  skip : {s : State K.F} → (h : ℕ) (c : Claim K.F) (t : Key) (g : K.F) (rest : List (Key × K.F)) → s.claims h ≡ Some c
      → c.parts ≡ (t, g) ∷ rest → IsMet K s.get t g → Step K s (part_done s h)
  lower : {s : State K.F} → (h : ℕ) (c : Claim K.F) (t : Key) (g : K.F) (rest : List (Key × K.F)) → s.claims h ≡ Some c
      → c.parts ≡ (t, g) ∷ rest → (IsMet K s.get t g → ⊥) → Step K s (part_done (lowered_in_frame K s t g) h)
  release : {s : State K.F} → (h : ℕ) (c : Claim K.F) → s.claims h ≡ Some c → Step K s (with_claim s h None)
  finish : {s : State K.F} → (h : ℕ) (c : Claim K.F) → s.claims h ≡ Some c → c.parts ≡ [] → Step K s (finished s h c)
  root : {s : State K.F} → (r d : ℕ) → K.graph.start_of r ≡ r → d < K.facts → s.get (Jump r d d) ≡ None → Step K s (seeded_at K s (Jump r d d))

-- the state after some steps, from nothing on
pub data Run (K : Frame) : State K.F → Type 0 where
  begins : Run K (nothing_done K.F)
  goes_on : {s t : State K.F} → Run K s → Step K s t → Run K t

-- some steps, from a state to the one that they come to
pub data Steps (K : Frame) : State K.F → State K.F → Type 0 where
  none : {s : State K.F} → Steps K s s
  more : {s t u : State K.F} → Steps K s t → Step K t u → Steps K s u

-- the first steps, and then the next
abbrev pub steps_joined : {K : Frame} {s t u : State K.F} → Steps K s t → Steps K t u → Steps K s u
steps_joined first none = first
steps_joined first (more steps step) = more (steps_joined first steps) step

-- how many of the steps are claims
abbrev pub claims_of : {K : Frame} {s t : State K.F} → Step K s t → ℕ
claims_of (claim h q parts free waits alone owes) = 1
claims_of (skip h c t g rest mine parts met) = 0
claims_of (lower h c t g rest mine parts changes) = 0
claims_of (release h c mine) = 0
claims_of (finish h c mine over) = 0
claims_of (root r d is_start in_range absent) = 0

abbrev pub claims_in : {K : Frame} {s t : State K.F} → Steps K s t → ℕ
claims_in none = 0
claims_in (more steps step) = claims_in steps + claims_of step

-- how many of the steps are parts that lower a key
abbrev pub lowerings_of : {K : Frame} {s t : State K.F} → Step K s t → ℕ
lowerings_of (claim h q parts free waits alone owes) = 0
lowerings_of (skip h c t g rest mine parts met) = 0
lowerings_of (lower h c t g rest mine parts changes) = 1
lowerings_of (release h c mine) = 0
lowerings_of (finish h c mine over) = 0
lowerings_of (root r d is_start in_range absent) = 0

abbrev pub lowerings_in : {K : Frame} {s t : State K.F} → Steps K s t → ℕ
lowerings_in none = 0
lowerings_in (more steps step) = lowerings_in steps + lowerings_of step

-- how many of the steps give a claim back
abbrev pub releases_of : {K : Frame} {s t : State K.F} → Step K s t → ℕ
releases_of (claim h q parts free waits alone owes) = 0
releases_of (skip h c t g rest mine parts met) = 0
releases_of (lower h c t g rest mine parts changes) = 0
releases_of (release h c mine) = 1
releases_of (finish h c mine over) = 0
releases_of (root r d is_start in_range absent) = 0

abbrev pub releases_in : {K : Frame} {s t : State K.F} → Steps K s t → ℕ
releases_in none = 0
releases_in (more steps step) = releases_in steps + releases_of step

-- how many of the steps are entries of roots
abbrev pub seeds_of : {K : Frame} {s t : State K.F} → Step K s t → ℕ
seeds_of (claim h q parts free waits alone owes) = 0
seeds_of (skip h c t g rest mine parts met) = 0
seeds_of (lower h c t g rest mine parts changes) = 0
seeds_of (release h c mine) = 0
seeds_of (finish h c mine over) = 0
seeds_of (root r d is_start in_range absent) = 1

abbrev pub seeds_in : {K : Frame} {s t : State K.F} → Steps K s t → ℕ
seeds_in none = 0
seeds_in (more steps step) = seeds_in steps + seeds_of step

-- the hand's own step: it claims, does a part, ends its claim or gives it back
abbrev pub IsBy : {K : Frame} {s t : State K.F} → ℕ → Step K s t → Type 0
IsBy hand (claim h q parts free waits alone owes) = h ≡ hand
IsBy hand (skip h c t g rest mine parts met) = h ≡ hand
IsBy hand (lower h c t g rest mine parts changes) = h ≡ hand
IsBy hand (release h c mine) = h ≡ hand
IsBy hand (finish h c mine over) = h ≡ hand
IsBy hand (root r d is_start in_range absent) = ⊥

-- and so is each of the steps
abbrev pub AreBy : {K : Frame} {s t : State K.F} → ℕ → Steps K s t → Type 0
AreBy hand none = Unit {0}
AreBy hand (more steps step) = AreBy hand steps × IsBy hand step

-- no key is pending
abbrev pub IsQuiet : {F : Type 0} → State F → Type 0
IsQuiet s = (key : Key) → s.pending key ≡ false
