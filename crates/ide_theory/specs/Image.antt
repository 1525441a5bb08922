-- The image of a tabulation, which gives keys their functions, and the instances of its rules.
use Rattle.std.specs.Prelude.{◌≡◌, ℕ, ◌<◌, ◌⊎◌, List, [], ◌∷◌, Option, Some, unwrap_or}
use Rattle.ide_wire.specs.declared.key.Key.{Key}
use Rattle.ide_wire.specs.declared.key.Key.TheVariants.{Jump, Summary}
use Rattle.ide_theory.specs.Frame.{Frame, Roots}
use Rattle.ide_theory.specs.Member.{IsIn}

-- the flow over the edge lists fact `d` with that function for fact `k`
abbrev pub IsTarget : (K : Frame) → K.graph.Edge → ℕ → ℕ → K.F → Type 0
IsTarget K e k d f = IsIn {T = ℕ × K.F} (d, f) (K.targets e k)

-- the function of a key: always-top where it is absent
abbrev pub function_of : (K : Frame) → (Key → Option K.F) → Key → K.F
function_of K get key = unwrap_or (get key) K.functions.all_top

-- an instance of a rule: from the functions of keys that are present, one that another key receives.
-- A jump function goes on over a flat edge; a call seeds the identity at the callee's start; past a
-- call goes the summary; and a callee's exit makes the summary of each call.
pub data Instance (K : Frame) (get : Key → Option K.F) : List Key → Key → K.F → Type 0 where
  flat : (e : K.graph.Edge) (a b c : ℕ) (f g : K.F) → K.graph.IsFlat e → get (Jump (K.graph.from e) a b) ≡ Some f → IsTarget K e b c g
      → Instance K get (Jump (K.graph.from e) a b ∷ []) (Jump (K.graph.to e) a c) (K.functions.compose f g)
  seed : (e : K.graph.Edge) (a b c : ℕ) (f g : K.F) → K.graph.IsCall e → get (Jump (K.graph.from e) a b) ≡ Some f → IsTarget K e b c g
      → Instance K get (Jump (K.graph.from e) a b ∷ []) (Jump (K.graph.to e) c c) K.functions.id
  after : (call ret : K.graph.Edge) (a b d : ℕ) (f s : K.F) → K.graph.Matched call ret
      → get (Jump (K.graph.from call) a b) ≡ Some f → get (Summary (K.graph.from call) b d) ≡ Some s
      → Instance K get (Jump (K.graph.from call) a b ∷ Summary (K.graph.from call) b d ∷ []) (Jump (K.graph.to ret) a d) (K.functions.compose f s)
  summarised : (call ret : K.graph.Edge) (a b c d : ℕ) (g f h : K.F) → K.graph.Matched call ret → IsTarget K call a b g
      → get (Jump (K.graph.from ret) b c) ≡ Some f → IsTarget K ret c d h
      → Instance K get (Jump (K.graph.from ret) b c ∷ []) (Summary (K.graph.from call) a d) (K.functions.compose (K.functions.compose g f) h)

-- the key has received the function: to meet its own with it changes nothing
abbrev pub IsMet : (K : Frame) → (Key → Option K.F) → Key → K.F → Type 0
IsMet K get key g = K.functions.meet (function_of K get key) g ≡ function_of K get key

-- each root has the identity for each fact whose entry is not top
abbrev pub HasRoots : (K : Frame) → Roots K → (Key → Option K.F) → Type 0
HasRoots K R get = (r d : ℕ) → R.IsRoot r → d < K.facts → (R.entry d ≡ K.lattice.top) ⊎ IsMet K get (Jump r d d) K.functions.id
