-- When values are best: a run over the graph of a program came to the tables that they follow from.
use Rattle.std.specs.Prelude.{◌≡◌, ℕ, ◌+◌, ◌*◌, ◌<◌, List, slice_index_or}
use Rattle.ide_graph.specs.GraphOf.{IsGraphOf}
use Rattle.ide_graph.specs.ProgramEdges.{HasEdgesOf}
use Rattle.ide_graph.specs.Supergraph.{Supergraph}
use Rattle.ide_lattice.specs.Algebra.{LatticeAlgebra, EdgeAlgebra}
use Rattle.ide_problem.specs.Flow.{Targets}
use Rattle.ide_image.specs.Tables.{Table, found}
use Rattle.ide_text.specs.declared.program.Program.{Program}
use Rattle.ide_theory.specs.Best.{IsBest}
use Rattle.ide_theory.specs.Graphs.{frame_at, roots_at}
use Rattle.ide_theory.specs.Image.{HasRoots}
use Rattle.ide_theory.specs.Member.{IsIn}
use Rattle.ide_theory.specs.Run.{IsQuiet, Run}
use Rattle.ide_theory.specs.Sites.{HaveEdgesOf}
use Rattle.ide_theory.specs.State.{State}
use Rattle.ide_values.specs.BestDump.{IsBestDump}
use Rattle.ide_values.specs.Closed.{FollowFrom}
use Rattle.ide_values.specs.Dump.{dump_of}

-- the graph is that of the program, and roots are procedures
pub record AreOf (graph : Supergraph) (roots : List ℕ) (p : Program) : Type 0 where
  pub numbered : IsGraphOf p graph
  pub edges : HasEdgesOf p graph
  pub rooted : (i : ℕ) → IsIn i roots → i < graph.procedures

module _ {F L : Type 0} (A : LatticeAlgebra L) (B : EdgeAlgebra F L) (targets : Targets F) where
  -- a run over the graph came to the tables: no key waits, and the roots have their identities
  pub record TablesRest (graph : Supergraph) (all : HaveEdgesOf graph.facts graph.sites) (roots : List ℕ) (table : Table F) : Type 0 where
    pub state : State F
    pub run : Run (frame_at A B targets graph all) state
    pub image : state.get ≡ found table
    pub quiet : IsQuiet state
    pub begun : HasRoots (frame_at A B targets graph all) (roots_at A B targets graph all roots) state.get

  -- where the graph is of a program and a run came to the tables, each value is best at its node and fact
  abbrev pub AreBest : Supergraph → List ℕ → Table F → (ℕ → ℕ → L) → Type 0
  AreBest graph roots table value =
      (p : Program) → AreOf graph roots p → (all : HaveEdgesOf graph.facts graph.sites) → TablesRest graph all roots table
      → (n d : ℕ) → n < graph.nodes → d < graph.facts
      → IsBest (frame_at A B targets graph all) (roots_at A B targets graph all roots) n d (value n d)

  -- rows of values that follow from start values are best
  abbrev pub FollowingValuesAreBest : Type 0
  FollowingValuesAreBest =
      (graph : Supergraph) (roots : List ℕ) (table : Table F) (values : List L) → FollowFrom A B targets graph table roots values
      → AreBest graph roots table (λ n d. slice_index_or values (n * graph.facts + d) A.top)

  -- and the dump of best values shows the best of each fact at each node
  abbrev pub DumpsOfBestAreBest : Type 0
  DumpsOfBestAreBest =
      (graph : Supergraph) (roots : List ℕ) (table : Table F) (value : ℕ → ℕ → L) (shown : L → List ℕ) → AreBest graph roots table value
      → (p : Program) → AreOf graph roots p → (all : HaveEdgesOf graph.facts graph.sites) → TablesRest graph all roots table
      → IsBestDump (frame_at A B targets graph all) (roots_at A B targets graph all roots) graph shown (dump_of graph (λ n d. shown (value n d)))
