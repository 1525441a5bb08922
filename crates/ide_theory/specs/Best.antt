-- The best value of a fact at a node: what an answer of the solver means.
use Rattle.std.specs.Prelude.{ℕ, List, IsTrue}
use Rattle.ide_lattice.specs.Order.{IsBelow}
use Rattle.ide_theory.specs.Frame.{Frame, Roots}
use Rattle.ide_theory.specs.Path.{Valid}
use Rattle.ide_theory.specs.Effect.{path_effect}

module _ (K : Frame) (R : Roots K) where
  open K use {L, lattice, graph, graph.{Edge}}
  open R use {IsRoot, entry}

  -- the value is below what each valid path from a root gives the fact at the node
  abbrev pub IsBelowPaths : ℕ → ℕ → L → Type 0
  IsBelowPaths n d w = (r : ℕ) (es : List Edge) → IsRoot r → Valid graph r es n → IsBelow lattice w (path_effect K es entry d)

-- the greatest proper value that is below what each valid path gives
pub record IsBest (K : Frame) (R : Roots K) (n d : ℕ) (v : K.L) : Type 0 where
  pub proper : IsTrue (K.lattice.proper v)
  pub lower : IsBelowPaths K R n d v
  pub greatest : (w : K.L) → IsTrue (K.lattice.proper w) → IsBelowPaths K R n d w → IsBelow K.lattice w v
