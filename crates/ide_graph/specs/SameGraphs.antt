-- Graphs that are the same.
use Rattle.std.specs.Prelude.{ℕ, ◌<◌, ◌≡◌, List, slice_index}
use Rattle.ide_graph.specs.GraphOfText.{IsGraphOfText}
use Rattle.ide_graph.specs.Supergraph.{Supergraph, procedure_named, fact_named, fact_names}

-- the graphs have the same nodes, facts, procedures and names, and the same sites
pub record AreSameGraphs (graph other : Supergraph) : Type 0 where
  pub procedures : graph.procedures ≡ other.procedures
  pub nodes : graph.nodes ≡ other.nodes
  pub facts : graph.facts ≡ other.facts
  pub entries : graph.entries ≡ other.entries
  pub owners : graph.owners ≡ other.owners
  pub starts : (i : ℕ) → i < graph.procedures → slice_index graph.starts i ≡ slice_index other.starts i
  pub exits : (i : ℕ) → i < graph.procedures → slice_index graph.exits i ≡ slice_index other.exits i
  pub parameters : (i : ℕ) → i < graph.procedures → slice_index graph.parameters i ≡ slice_index other.parameters i
  pub named : (name : List ℕ) → procedure_named graph name ≡ procedure_named other name
  pub names : (i : ℕ) → i < graph.procedures → fact_names graph i ≡ fact_names other i
  pub found : (i : ℕ) → i < graph.procedures → (name : List ℕ) → fact_named graph i name ≡ fact_named other i name
  pub sites : graph.sites ≡ other.sites

-- two graphs of one text are the same
abbrev pub GraphsOfOneTextAreSame : Type 0
GraphsOfOneTextAreSame = (text : List ℕ) (graph other : Supergraph) → IsGraphOfText text graph → IsGraphOfText text other → AreSameGraphs graph other
