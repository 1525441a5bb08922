-- Values from an image: what the value phase finds at the starts of procedures, and what follows
-- at each node.
use Rattle.std.specs.Prelude.{ℕ, ◌<◌, Option}
use Rattle.ide_lattice.specs.Order.{IsBelow}
use Rattle.ide_lattice.specs.Meets.{meet_of}
use Rattle.ide_wire.specs.declared.key.Key.{Key}
use Rattle.ide_wire.specs.declared.key.Key.TheVariants.{Jump}
use Rattle.ide_theory.specs.Frame.{Frame, Roots}
use Rattle.ide_theory.specs.Effect.{arrow}
use Rattle.ide_theory.specs.Image.{function_of}

-- how the value of fact `b` at the node depends on that of `a` at the start of its procedure
abbrev pub jump_map : (K : Frame) → (Key → Option K.F) → ℕ → ℕ → ℕ → K.L → K.L
jump_map K get n a b = K.functions.apply (function_of K get (Jump n a b))

-- the value of a fact at a start is a meet of entries and of what calls hand on
pub data Found (K : Frame) (R : Roots K) (get : Key → Option K.F) : ℕ → ℕ → K.L → Type 0 where
  nothing : {s k : ℕ} → Found K R get s k K.lattice.top
  given : {r k : ℕ} → R.IsRoot r → k < K.facts → Found K R get r k (R.entry k)
  passed : {a : ℕ} {x : K.L} → (e : K.graph.Edge) (b c : ℕ) → K.graph.IsCall e → Found K R get (K.graph.start_of (K.graph.from e)) a x
      → Found K R get (K.graph.to e) c (arrow K e b c (jump_map K get (K.graph.from e) a b x))
  meet : {s k : ℕ} {x y : K.L} → Found K R get s k x → Found K R get s k y → Found K R get s k (K.lattice.meet x y)

-- the values at the starts are found, below the entries of roots and below what calls hand on
pub record IsStarted (K : Frame) (R : Roots K) (get : Key → Option K.F) (start : ℕ → ℕ → K.L) : Type 0 where
  pub found : (s k : ℕ) → k < K.facts → Found K R get s k (start s k)
  pub root : (r k : ℕ) → R.IsRoot r → k < K.facts → IsBelow K.lattice (start r k) (R.entry k)
  pub call : (e : K.graph.Edge) → K.graph.IsCall e → (a b c : ℕ) → a < K.facts → b < K.facts → c < K.facts
      → IsBelow K.lattice (start (K.graph.to e) c) (arrow K e b c (jump_map K get (K.graph.from e) a b (start (K.graph.start_of (K.graph.from e)) a)))

-- the value of a fact at a node
abbrev pub value_at : (K : Frame) → (Key → Option K.F) → (ℕ → ℕ → K.L) → ℕ → ℕ → K.L
value_at K get start n d = meet_of K.lattice (λ k. jump_map K get n k d (start (K.graph.start_of n) k)) K.facts
