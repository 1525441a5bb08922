-- The start values for the roots over a closed graph, and the values that follow.
use Rattle.std.specs.Global.{Vec}
use Rattle.std.specs.Prelude.{◌≡◌, ℕ, ◌+◌, ◌*◌, ◌<◌, List, slice_index_or}
use Rattle.ide_graph.specs.Closed.{IsClosed}
use Rattle.ide_graph.specs.Joined.{AreJoined, start_at}
use Rattle.ide_graph.specs.Supergraph.{Supergraph}
use Rattle.ide_lattice.specs.Algebra.{LatticeAlgebra, EdgeAlgebra}
use Rattle.ide_problem.specs.Flow.{Targets}
use Rattle.ide_theory.specs.Graphs.{frame_at, roots_at}
use Rattle.ide_theory.specs.Member.{IsIn}
use Rattle.ide_theory.specs.Sites.{HaveEdgesOf}
use Rattle.ide_theory.specs.Value.{IsStarted, value_at}
use Rattle.ide_image.specs.Tables.{Table, found}
use Rattle.ide_values.specs.Fill.{Fills, IsImage}

-- the graph is closed, and roots are procedures
pub record IsRooted (graph : Supergraph) (roots : List ℕ) : Type 0 where
  pub is_closed : IsClosed graph
  pub rooted : (i : ℕ) → IsIn i roots → i < graph.procedures

-- over a closed graph whose sites fit together, and an image of it, the rows of values by node are those
-- that follow from start values for the roots
pub record FollowFrom {F L : Type 0} (A : LatticeAlgebra L) (B : EdgeAlgebra F L) (targets : Targets F) (graph : Supergraph) (table : Table F) (roots : List ℕ) (values : List L) : Type 0 where
  pub started : (all : HaveEdgesOf graph.facts graph.sites) → AreJoined graph.sites (start_at graph) → IsRooted graph roots → IsImage B graph (found table)
      → (start : ℕ → ℕ → L)
      × IsStarted (frame_at A B targets graph all) (roots_at A B targets graph all roots) (found table) start
      × ((n d : ℕ) → n < graph.nodes → d < graph.facts
      → slice_index_or values (n * graph.facts + d) A.top ≡ value_at (frame_at A B targets graph all) (found table) start n d)

-- what is filled from the start values follows
abbrev pub LeadOn : {F L : Type 0} → LatticeAlgebra L → EdgeAlgebra F L → Targets F → Supergraph → Table F → List ℕ → Vec L → Type 0
LeadOn {L = L} A B targets graph table roots starts = (rows : List L) → Fills A B graph table starts.items rows → FollowFrom A B targets graph table roots rows
