-- The next call node from each node on.
use Rattle.std.specs.Global.{Vec}
use Rattle.std.specs.Prelude.{◌≡◌, ℕ, ◌<◌, ◌≤◌, List, [], length, slice_index_or}
use Rattle.ide_graph.specs.Supergraph.{Supergraph}
use Rattle.ide_values.specs.Pass.{calls_of}

-- no call edges leave the nodes from one on and before another
abbrev pub HaveNoCalls : Supergraph → (begin end : ℕ) → Type 0
HaveNoCalls graph begin end = (n : ℕ) → begin ≤ n → n < end → calls_of graph n ≡ []

-- nor those from the node on and before the next
pub record IsNextCall (graph : Supergraph) (node next : ℕ) : Type 0 where
  pub order : node ≤ next
  pub none : HaveNoCalls graph node next

-- there is such a next one for each node
pub record AreNextCalls (graph : Supergraph) (nexts : List ℕ) : Type 0 where
  pub count : length nexts ≡ graph.nodes
  pub each : (n : ℕ) → n < length nexts → IsNextCall graph n (slice_index_or nexts n 0)

-- the same for a list that is answered
abbrev pub AreNextCallsIn : Supergraph → Vec ℕ → Type 0
AreNextCallsIn graph nexts = AreNextCalls graph nexts.items
