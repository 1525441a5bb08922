-- A graph whose numbers are its own.
use Rattle.std.specs.Prelude.{◌≡◌, ℕ, ◌<◌, Some, length, slice_get, slice_index}
use Rattle.ide_text.specs.declared.program.Program.{Program}
use Rattle.ide_graph.specs.declared.edge.EdgeData.{EdgeData}
use Rattle.ide_graph.specs.declared.site.Site.{Site}
use Rattle.ide_graph.specs.GraphOf.{IsGraphOf}
use Rattle.ide_graph.specs.Joined.{HasCall}
use Rattle.ide_graph.specs.ProgramEdges.{HasEdgesOf}
use Rattle.ide_graph.specs.Supergraph.{Supergraph}

-- each node has a site and a procedure, each procedure a start that is its own, and calls end at nodes
pub record IsClosed (graph : Supergraph) : Type 0 where
  pub sited : length graph.sites ≡ graph.nodes
  pub owned : (n : ℕ) → n < graph.nodes → slice_index graph.owners n < graph.procedures
  pub begun : (i : ℕ) → i < graph.procedures → slice_index graph.starts i < graph.nodes
  pub home : (i : ℕ) → i < graph.procedures → slice_index graph.owners (slice_index graph.starts i) ≡ i
  pub ends : (n : ℕ) (s : Site) (edge : EdgeData) → slice_get graph.sites n ≡ Some s → HasCall s edge → edge.end < graph.nodes

-- the graph of a program is closed
abbrev pub GraphsOfProgramsAreClosed : Type 0
GraphsOfProgramsAreClosed = (p : Program) (graph : Supergraph) → IsGraphOf p graph → HasEdgesOf p graph → IsClosed graph
