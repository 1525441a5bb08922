-- What each step of a tabulation keeps.
use Rattle.std.specs.Prelude.{◌≡◌, ◌⊎◌, ℕ, true, false, List, Some, None}
use Rattle.ide_wire.specs.declared.key.Key.{Key}
use Rattle.ide_theory.specs.Frame.{Frame}
use Rattle.ide_theory.specs.Member.{IsIn}
use Rattle.ide_theory.specs.Image.{Instance, IsMet}
use Rattle.ide_theory.specs.Entry.{MeetOf, OfKey, IsSound}
use Rattle.ide_theory.specs.State.{Claim, State}

-- the key is pending, and each claim of it has seen a lowering
pub record IsOpen {F : Type 0} (s : State F) (q : Key) : Type 0 where
  pub pending : s.pending q ≡ true
  pub stale : (h : ℕ) (c : Claim F) → s.claims h ≡ Some c → c.key ≡ q → c.lowered ≡ true

-- an instance is settled: its key has received the function, or one of its premises will be worked
-- off anew, or a hand whose claim of a premise has seen no lowering has it among its parts
pub data IsSettled (K : Frame) (s : State K.F) (ks : List Key) (k : Key) (g : K.F) : Type 0 where
  met : IsMet K s.get k g → IsSettled K s ks k g
  awaits : (q : Key) → IsIn q ks → IsOpen s q → IsSettled K s ks k g
  owed : (h : ℕ) (c : Claim K.F) → s.claims h ≡ Some c → IsIn c.key ks → c.lowered ≡ false → IsIn {T = Key × K.F} (k, g) c.parts → IsSettled K s ks k g

abbrev pub AreInstancesSettled : (K : Frame) → State K.F → Type 0
AreInstancesSettled K s = (ks : List Key) (k : Key) (g : K.F) → Instance K s.get ks k g → IsSettled K s ks k g

-- a claimed key is pending, and no two hands have one key
pub record IsHeld {F : Type 0} (s : State F) : Type 0 where
  pub pending : (h : ℕ) (c : Claim F) → s.claims h ≡ Some c → s.pending c.key ≡ true
  pub one : (h j : ℕ) (c d : Claim F) → s.claims h ≡ Some c → s.claims j ≡ Some d → c.key ≡ d.key → h ≡ j

-- each part of a claim is of functions that its key may receive
abbrev pub AreOwed : (K : Frame) → State K.F → Type 0
AreOwed K s = (h : ℕ) (c : Claim K.F) → s.claims h ≡ Some c → (k : Key) (g : K.F) → IsIn {T = Key × K.F} (k, g) c.parts → MeetOf K.functions (OfKey K k) g

pub record IsInvariant (K : Frame) (s : State K.F) : Type 0 where
  pub ready : AreInstancesSettled K s
  pub held : IsHeld s
  pub sound : IsSound K s.get
  pub owed : AreOwed K s

-- the state with no claim, as it is found after a stop
abbrev pub unclaimed : {F : Type 0} → State F → State F
unclaimed s = record s { claims = λ _. None }

-- what a state without claims has to have: sound entries, and each instance met or with a pending premise
pub record IsSettledPlainly (K : Frame) (s : State K.F) : Type 0 where
  pub ready : (ks : List Key) (k : Key) (g : K.F) → Instance K s.get ks k g → IsMet K s.get k g ⊎ ((q : Key) × IsIn q ks × (s.pending q ≡ true))
  pub sound : IsSound K s.get
