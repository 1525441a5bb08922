-- That roots are begun in a core, name by name.
use Rattle.std.specs.Borrow.{Bor}
use Rattle.std.specs.Prelude.{◌≡◌, ℕ, ◌<◌, ◌≤◌, List, Some, slice_index}
use Rattle.ide_graph.specs.Joined.{AreJoined, start_at}
use Rattle.ide_graph.specs.Supergraph.{Supergraph}
use Rattle.ide_lattice.specs.Algebra.{LatticeAlgebra, EdgeAlgebra}
use Rattle.ide_problem.specs.Flow.{Targets}
use Rattle.ide_theory.specs.Graphs.{frame_at, roots_at}
use Rattle.ide_theory.specs.Image.{HasRoots}
use Rattle.ide_theory.specs.Member.{IsIn}
use Rattle.ide_theory.specs.Run.{Run, Steps}
use Rattle.ide_theory.specs.Sites.{HaveEdgesOf}
use Rattle.ide_image.specs.Worklist.{IsFree}
use Rattle.ide_steps.specs.Core.{CoreData}
use Rattle.ide_steps.specs.State.{state_of}
use Rattle.ide_solver.specs.Shown.{ShownAnalysis}
use Rattle.ide_solver.specs.Solve.{AreRootNames, names_of}

-- the sites fit together, each procedure's start is its own, and entry facts are facts
pub record IsInOrder (graph : Supergraph) : Type 0 where
  pub joined : AreJoined graph.sites (start_at graph)
  pub home : (i : ℕ) → i < graph.procedures → start_at graph (slice_index graph.starts i) ≡ slice_index graph.starts i
  pub entries : graph.entries ≤ graph.facts

module _ {F L : Type 0} (A : LatticeAlgebra L) (B : EdgeAlgebra F L) (targets : Targets F) where
  -- over a graph that is ready, steps make the procedures of the names roots, and these have their identities;
  -- the program stays
  pub record AreBegun (old new : CoreData F) (names : List (List ℕ)) : Type 0 where
    pub program : new.program ≡ old.program
    pub same : new.graph ≡ old.graph
    pub unclaimed : IsFree old.pile → IsFree new.pile
    pub named : (graph : Supergraph) → old.graph ≡ Some graph → AreRootNames graph old.roots names new.roots
    pub within : (graph : Supergraph) → old.graph ≡ Some graph → ((i : ℕ) → IsIn i old.roots → i < graph.procedures)
        → (i : ℕ) → IsIn i new.roots → i < graph.procedures
    pub steps : (graph : Supergraph) → old.graph ≡ Some graph → (all : HaveEdgesOf graph.facts graph.sites) → IsInOrder graph
        → Run (frame_at A B targets graph all) (state_of B targets old)
        → Steps (frame_at A B targets graph all) (state_of B targets old) (state_of B targets new)
    pub begun : (graph : Supergraph) → old.graph ≡ Some graph → (all : HaveEdgesOf graph.facts graph.sites) → IsInOrder graph
        → Run (frame_at A B targets graph all) (state_of B targets old)
        → HasRoots (frame_at A B targets graph all) (roots_at A B targets graph all old.roots) (state_of B targets old).get
        → HasRoots (frame_at A B targets graph all) (roots_at A B targets graph all new.roots) (state_of B targets new).get

-- the same by the analysis, of the names that are lent
abbrev pub AreBegunFor : {F L : Type 0} → ShownAnalysis F L → (old new : CoreData F) → List (Bor (List ℕ)) → Type 0
AreBegunFor a old new lent = AreBegun a.lattice a.functions a.targets old new (names_of lent)
