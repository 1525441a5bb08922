-- That what a core does are steps of a tabulation over its graph.
use Rattle.std.specs.Prelude.{◌≡◌, ℕ, ◌≤◌, ◌^◌, Some}
use Rattle.ide_graph.specs.Ends.{AreEndsNodes}
use Rattle.ide_graph.specs.Exits.{AreExitsOwned}
use Rattle.ide_graph.specs.Joined.{AreJoined, start_at}
use Rattle.ide_graph.specs.Supergraph.{Supergraph}
use Rattle.ide_lattice.specs.Algebra.{LatticeAlgebra, EdgeAlgebra}
use Rattle.ide_problem.specs.Flow.{Targets}
use Rattle.ide_theory.specs.Graphs.{frame_at}
use Rattle.ide_theory.specs.Run.{AreBy, Run, Steps, claims_in, lowerings_in, releases_in}
use Rattle.ide_theory.specs.Sites.{HaveEdgesOf}
use Rattle.ide_steps.specs.Core.{CoreData, IsSameProblem}
use Rattle.ide_steps.specs.State.{state_of}

-- the sites fit together, facts are 16 bit numbers, exits are those of their
-- procedures, and edges end at nodes
pub record IsFit (graph : Supergraph) : Type 0 where
  pub joined : AreJoined graph.sites (start_at graph)
  pub few : graph.facts ≤ 2 ^ 16
  pub exits : AreExitsOwned graph
  pub ends : AreEndsNodes graph

module _ {F L : Type 0} (A : LatticeAlgebra L) (B : EdgeAlgebra F L) (targets : Targets F) where
  -- over a graph that is fit, steps of one hand lead from the one core's state to the other's, where a
  -- run came to that: so many of them are claims, parts that lower a key, and claims given back; program
  -- and roots stay
  pub record GoesOnByHand (hand claims lowerings releases : ℕ) (old new : CoreData F) : Type 0 where
    pub same : IsSameProblem old new
    pub steps : (graph : Supergraph) → old.graph ≡ Some graph → (all : HaveEdgesOf graph.facts graph.sites) → IsFit graph
        → Run (frame_at A B targets graph all) (state_of B targets old)
        → (way : Steps (frame_at A B targets graph all) (state_of B targets old) (state_of B targets new))
        × AreBy hand way
        × (claims_in way ≡ claims)
        × (lowerings_in way ≡ lowerings)
        × (releases_in way ≡ releases)

  -- the same, with any number of each
  pub record GoesOn (hand : ℕ) (old new : CoreData F) : Type 0 where
    pub claims : ℕ
    pub lowerings : ℕ
    pub releases : ℕ
    pub by : GoesOnByHand hand claims lowerings releases old new
