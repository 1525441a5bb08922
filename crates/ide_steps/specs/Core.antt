-- What contracts see of a core, and when its calls are refused.
use Rattle.std.specs.Prelude.{◌≡◌, ℕ, ◌<◌, Bool, true, length, List, Option, Some, IfSome}
use Rattle.std.specs.List.{All}
use Rattle.std.specs.Option.{is_some}
use Rattle.ide_graph.specs.GraphOf.{IsGraphOf}
use Rattle.ide_graph.specs.ProgramEdges.{HasEdgesOf}
use Rattle.ide_graph.specs.Supergraph.{Supergraph}
use Rattle.ide_lattice.specs.Algebra.{EdgeAlgebra}
use Rattle.ide_problem.specs.Flow.{Targets}
use Rattle.ide_tasks.specs.Parts.{owed}
use Rattle.ide_tasks.specs.Sources.{AreSourcesOf}
use Rattle.ide_tasks.specs.declared.sources.Source.{Source}
use Rattle.ide_image.specs.Tables.{Table}
use Rattle.ide_tasks.specs.Task.{TaskData}
use Rattle.ide_text.specs.Program.{value_of}
use Rattle.ide_text.specs.Value.{ProgramValue}
use Rattle.ide_text.specs.declared.program.Program.{Program}
use Rattle.ide_wire.specs.Key.{node_of}
use Rattle.ide_wire.specs.declared.key.Key.{Key}
use Rattle.ide_image.specs.declared.entry.Entry.{Entry}
use Rattle.ide_image.specs.Worklist.{Pile, claim_at, is_pending}
use Rattle.ide_steps.specs.ProgramText.{said_by}
use Rattle.ide_steps.specs.declared.program_text.ProgramText.{ProgramText}

-- what the loaded program says, and its graph, if one is loaded; the roots, as indices of procedures; the tables;
-- the pending keys with the claims; and, if somebody asked for changes, for each key that changed since, the entry
-- that it had then
pub record CoreData (F : Type 0) : Type 0 where
  pub program : Option ProgramValue
  pub graph : Option Supergraph
  pub roots : List ℕ
  pub table : Table F
  pub pile : Pile (TaskData F)
  pub changes : Option (List (Key × Entry F))

module _ {F : Type 0} where
  -- whether a program is loaded
  abbrev pub is_loaded : CoreData F → Bool
  is_loaded core = is_some core.graph

  -- P holds of the graph, where a program is loaded
  abbrev pub WhereLoaded : CoreData F → (Supergraph → Type 0) → Type 0
  WhereLoaded core P = (graph : Supergraph) → core.graph ≡ Some graph → P graph

  -- program, graph and roots stay
  pub record IsSameProblem (old new : CoreData F) : Type 0 where
    pub program : new.program ≡ old.program
    pub graph : new.graph ≡ old.graph
    pub roots : new.roots ≡ old.roots

  -- the image, the pending keys, each hand's claim and what is noted are as they were
  pub record IsUnchanged (old new : CoreData F) : Type 0 where
    pub program : new.program ≡ old.program
    pub graph : new.graph ≡ old.graph
    pub roots : new.roots ≡ old.roots
    pub table : new.table ≡ old.table
    pub pending : new.pile.pending ≡ old.pile.pending
    pub claims : (hand : ℕ) → claim_at new.pile hand ≡ claim_at old.pile hand
    pub changes : new.changes ≡ old.changes

-- the key stands at a node of the graph
abbrev pub StandsIn : Supergraph → Key → Type 0
StandsIn graph key = node_of key < graph.nodes

-- the key of each entry stands at a node of the graph
abbrev pub AllStandIn : {F : Type 0} → Supergraph → List (Key × F) → Type 0
AllStandIn graph entries = All (λ entry. StandsIn graph entry.0) entries

module _ {F : Type 0} (core : CoreData F) where
  -- where a program is loaded, the key stands at a node of its graph
  abbrev pub IsInside : Key → Type 0
  IsInside key = (graph : Supergraph) → core.graph ≡ Some graph → StandsIn graph key

  -- and so does the key of each entry
  abbrev pub AreInside : List (Key × F) → Type 0
  AreInside entries = (graph : Supergraph) → core.graph ≡ Some graph → AllStandIn graph entries

-- the graph is that of a program that says so
pub data IsOfProgram (value : ProgramValue) (graph : Supergraph) : Type 0 where
  of_program : (program : Program) → value_of program ≡ value → IsGraphOf program graph → HasEdgesOf program graph → IsOfProgram value graph

-- what is kept of a loaded program that says so: the graph is the program's, each node has a site, and the sources are those of
-- the graph
pub record IsProgramKept {F : Type 0} (targets : Targets F) (kept : ProgramText) (graph : Supergraph) (sources : List (List (Source F))) : Type 0 where
  pub graphed : IsOfProgram (said_by kept) graph
  pub sited : length graph.sites ≡ graph.nodes
  pub inverse : AreSourcesOf targets graph sources

-- no key stands outside of the graph: each pending key stands at a node of it, and so does the key of each part
-- that the task of a claim owes
pub record AreKeysKept {F L : Type 0} (B : EdgeAlgebra F L) (targets : Targets F) (graph : Supergraph) (pile : Pile (TaskData F)) : Type 0 where
  pub pending : (key : Key) → is_pending pile key ≡ true → StandsIn graph key
  pub claims : (hand : ℕ) → IfSome (claim_at pile hand) (λ held. AllStandIn graph (owed B targets held.task))
