-- A core that is ready to be drained: a program with its roots, and no hand at work.
use Rattle.std.specs.Borrow.{Bor}
use Rattle.std.specs.Prelude.{◌≡◌, ℕ, ◌<◌, List, [], Some}
use Rattle.ide_graph.specs.GraphOfText.{IsGraphOfText}
use Rattle.ide_graph.specs.Supergraph.{Supergraph}
use Rattle.ide_lattice.specs.Algebra.{LatticeAlgebra, EdgeAlgebra}
use Rattle.ide_problem.specs.Flow.{Targets}
use Rattle.ide_text.specs.Program.{value_of}
use Rattle.ide_theory.specs.Graphs.{frame_at, roots_at}
use Rattle.ide_theory.specs.Image.{HasRoots}
use Rattle.ide_theory.specs.Member.{IsIn}
use Rattle.ide_theory.specs.Run.{Run}
use Rattle.ide_theory.specs.Sites.{HaveEdgesOf}
use Rattle.ide_image.specs.Worklist.{IsFree}
use Rattle.ide_steps.specs.Core.{CoreData}
use Rattle.ide_steps.specs.Going.{IsFit}
use Rattle.ide_steps.specs.State.{state_of}
use Rattle.ide_solver.specs.Shown.{ShownAnalysis}
use Rattle.ide_solver.specs.Solve.{AreRootNames, names_of}

module _ {F L : Type 0} (A : LatticeAlgebra L) (B : EdgeAlgebra F L) (targets : Targets F) where
  -- the core has the program that the text spells, with its graph, and the procedures of the names as its
  -- roots; a run came to its state, where the roots have their identities; and no hand has a claim
  pub record IsPrepared (text : List ℕ) (names : List (List ℕ)) (core : CoreData F) (graph : Supergraph) : Type 0 where
    pub is : core.graph ≡ Some graph
    pub spelled : IsGraphOfText text graph
    pub loaded : core.program ≡ Some (value_of spelled.program)
    pub named : AreRootNames graph [] names core.roots
    pub within : (i : ℕ) → IsIn i core.roots → i < graph.procedures
    pub fit : IsFit graph
    pub all : HaveEdgesOf graph.facts graph.sites
    pub run : Run (frame_at A B targets graph all) (state_of B targets core)
    pub begun : HasRoots (frame_at A B targets graph all) (roots_at A B targets graph all core.roots) (state_of B targets core).get
    pub unclaimed : IsFree core.pile

-- the same by the analysis, with some graph and for the roots of the names that are lent
abbrev pub IsPreparedFor : {F L : Type 0} → ShownAnalysis F L → List ℕ → List (Bor (List ℕ)) → CoreData F → Type 0
IsPreparedFor a text roots core = (graph : Supergraph) × IsPrepared a.lattice a.functions a.targets text (names_of roots) core graph

-- what holds for each text and names of roots that the core is ready for
abbrev pub ForStarted : {F L : Type 0} → ShownAnalysis F L → CoreData F → (List ℕ → List (Bor (List ℕ)) → Type 0) → Type 0
ForStarted a core Holds = (text : List ℕ) (roots : List (Bor (List ℕ))) → IsPreparedFor a text roots core → Holds text roots
