-- What a dump means: its lines have the best values.
use Rattle.std.specs.Prelude.{◌≡◌, ℕ, ◌<◌, List}
use Rattle.ide_graph.specs.Supergraph.{Supergraph}
use Rattle.ide_theory.specs.Best.{IsBest}
use Rattle.ide_theory.specs.Frame.{Frame, Roots}
use Rattle.ide_values.specs.Dump.{dump_of}

-- the text is the dump of the best value of each fact at each node of the graph
pub record IsBestDump (K : Frame) (R : Roots K) (graph : Supergraph) (shown : K.L → List ℕ) (text : List ℕ) : Type 0 where
  pub value : ℕ → ℕ → K.L
  pub best : (n d : ℕ) → n < graph.nodes → d < graph.facts → IsBest K R n d (value n d)
  pub lines : text ≡ dump_of graph (λ n d. shown (value n d))
