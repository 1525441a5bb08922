-- Where edges end and where procedures begin.
use Rattle.std.specs.Prelude.{◌≡◌, ℕ, ◌<◌, Some, slice_get}
use Rattle.ide_text.specs.declared.program.Program.{Program}
use Rattle.ide_graph.specs.declared.edge.EdgeData.{EdgeData}
use Rattle.ide_graph.specs.declared.site.Site.{Site}
use Rattle.ide_graph.specs.GraphOf.{IsGraphOf}
use Rattle.ide_graph.specs.Joined.{HasFlat, HasCall, start_at}
use Rattle.ide_graph.specs.ProgramEdges.{HasEdgesOf}
use Rattle.ide_graph.specs.Supergraph.{Supergraph}

-- edges end at nodes, and what is its own start is a node
pub record AreEndsNodes (graph : Supergraph) : Type 0 where
  pub flat : (n : ℕ) (s : Site) (edge : EdgeData) → slice_get graph.sites n ≡ Some s → HasFlat s edge → edge.end < graph.nodes
  pub call : (n : ℕ) (s : Site) (edge : EdgeData) → slice_get graph.sites n ≡ Some s → HasCall s edge → edge.end < graph.nodes
  pub start : (n : ℕ) → start_at graph n ≡ n → n < graph.nodes

-- so it is in the graph of a program
abbrev pub EndsOfProgramsAreNodes : Type 0
EndsOfProgramsAreNodes = (p : Program) (graph : Supergraph) → IsGraphOf p graph → HasEdgesOf p graph → AreEndsNodes graph
