-- What the entries of a sound image are: finite meets of the functions of single paths.
use Rattle.std.specs.Prelude.{◌≡◌, ℕ, List, [], ◌∷◌, ◌++◌, Option, Some}
use Rattle.ide_lattice.specs.Algebra.{EdgeAlgebra}
use Rattle.ide_wire.specs.declared.key.Key.{Key}
use Rattle.ide_wire.specs.declared.key.Key.TheVariants.{Jump, Summary}
use Rattle.ide_theory.specs.Frame.{Frame}
use Rattle.ide_theory.specs.Path.{SameLevel}
use Rattle.ide_theory.specs.Image.{IsTarget}

-- from fact to fact along the edges of a path, by the composition of the listed functions
pub data Exploded (K : Frame) : List K.graph.Edge → ℕ → ℕ → K.F → Type 0 where
  done : {k : ℕ} → Exploded K [] k k K.functions.id
  more : {es : List K.graph.Edge} {d : ℕ} {f : K.F} → (e : K.graph.Edge) (k m : ℕ) (g : K.F) → IsTarget K e k m g → Exploded K es m d f
      → Exploded K (e ∷ es) k d (K.functions.compose g f)

-- the meet of one or more functions of a kind
pub data MeetOf {F L : Type 0} (B : EdgeAlgebra F L) (Q : F → Type 0) : F → Type 0 where
  one : {f : F} → Q f → MeetOf B Q f
  both : {f g : F} → MeetOf B Q f → MeetOf B Q g → MeetOf B Q (B.meet f g)

-- the function of a same-level path from the start of the node's procedure
pub record OfJump (K : Frame) (n a b : ℕ) (f : K.F) : Type 0 where
  pub path : List K.graph.Edge
  pub level : SameLevel K.graph (K.graph.start_of n) path n
  pub exploded : Exploded K path a b f

-- the function of a call, a same-level path through the callee, and the return
pub record OfSummary (K : Frame) (c a d : ℕ) (f : K.F) : Type 0 where
  pub call : K.graph.Edge
  pub ret : K.graph.Edge
  pub path : List K.graph.Edge
  pub matched : K.graph.Matched call ret
  pub at_call : K.graph.from call ≡ c
  pub level : SameLevel K.graph (K.graph.to call) path (K.graph.from ret)
  pub exploded : Exploded K (call ∷ (path ++ (ret ∷ []))) a d f

-- the functions that a key may receive
abbrev pub OfKey : (K : Frame) → Key → K.F → Type 0
OfKey K (Jump n a b) f = OfJump K n a b f
OfKey K (Summary c a d) f = OfSummary K c a d f

-- the function of each present key is a meet of those that it may receive
abbrev pub IsSound : (K : Frame) → (Key → Option K.F) → Type 0
IsSound K get = (key : Key) (f : K.F) → get key ≡ Some f → MeetOf K.functions (OfKey K key) f
