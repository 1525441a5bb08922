-- How many keys a graph has room for, and how many tasks that leaves.
use Rattle.std.specs.Prelude.{◌≡◌, ℕ, ◌+◌, ◌*◌, ◌≤◌, List, Option, Some, filter, length, slice_get}
use Rattle.std.specs.List.{IsDistinct, range_with_len}
use Rattle.std.specs.Map.{keys_of}
use Rattle.ide_graph.specs.GraphOf.{IsGraphOf}
use Rattle.ide_graph.specs.ProgramEdges.{HasEdgesOf}
use Rattle.ide_graph.specs.Supergraph.{Supergraph}
use Rattle.ide_lattice.specs.Algebra.{LatticeAlgebra, EdgeAlgebra}
use Rattle.ide_problem.specs.Flow.{Targets}
use Rattle.ide_image.specs.Spent.{spent}
use Rattle.ide_text.specs.Program.{value_of}
use Rattle.ide_text.specs.Value.{ProgramValue}
use Rattle.ide_text.specs.declared.program.Program.{Program}
use Rattle.ide_theory.specs.Graphs.{frame_at}
use Rattle.ide_theory.specs.Run.{Run}
use Rattle.ide_theory.specs.Sites.{HaveEdgesOf}
use Rattle.ide_theory.specs.Within.{is_some_call}
use Rattle.ide_wire.specs.Key.{same_key}
use Rattle.ide_steps.specs.Core.{CoreData}
use Rattle.ide_steps.specs.Going.{IsFit}
use Rattle.ide_steps.specs.State.{state_of}

-- the call nodes of a graph
abbrev pub call_nodes_of : Supergraph → List ℕ
call_nodes_of graph = filter (λ n. is_some_call (slice_get graph.sites n)) (range_with_len 0 graph.nodes)

-- a jump for each node and two facts, and a summary for each call node and two facts
abbrev pub key_space : Supergraph → ℕ
key_space graph = (graph.nodes + length (call_nodes_of graph)) * (graph.facts * graph.facts)

-- the graph is that of a program that says so, with the program's edges
pub record IsGraphSaid (said : Option ProgramValue) (graph : Supergraph) : Type 0 where
  pub program : Program
  pub says : Some (value_of program) ≡ said
  pub graphed : IsGraphOf program graph
  pub edges : HasEdgesOf program graph

-- what every core keeps: its tables have each key once, and the loaded graph has a site for each node and is that of the
-- program that is loaded
pub record IsWholeCore {F : Type 0} (core : CoreData F) : Type 0 where
  pub distinct : IsDistinct same_key (keys_of core.table.entries)
  pub sited : (graph : Supergraph) → core.graph ≡ Some graph → length graph.sites ≡ graph.nodes
  pub said : (graph : Supergraph) → core.graph ≡ Some graph → IsGraphSaid core.program graph

module _ {F L : Type 0} (A : LatticeAlgebra L) (B : EdgeAlgebra F L) (targets : Targets F) where
  -- over a graph that is fit, where a run came to the core's state
  abbrev pub InRuns : CoreData F → (Supergraph → Type 0) → Type 0
  InRuns core P =
      (graph : Supergraph) → core.graph ≡ Some graph → (all : HaveEdgesOf graph.facts graph.sites) → IsFit graph
      → Run (frame_at A B targets graph all) (state_of B targets core) → P graph

  -- the functions of a core have lost no more ranks than those of all keys have
  abbrev pub ImagesHaveRoom : Type 0
  ImagesHaveRoom =
      (core : CoreData F) → IsWholeCore core
      → InRuns core (λ graph. spent B core.table.entries ≤ key_space graph * B.height)

  -- so many tasks are at most the pending keys, and the ranks that the functions of all keys have
  abbrev pub AreTasksFew : CoreData F → ℕ → Type 0
  AreTasksFew core tasks = InRuns core (λ graph. tasks ≤ length core.pile.pending + key_space graph * B.height)
