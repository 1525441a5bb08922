-- The columns of lines before their values.
use Rattle.std.specs.Prelude.{◌≡◌, ℕ, ◌<◌, ◌≤◌, List, length, slice_get}
use Rattle.std.specs.Option.{option_map}
use Rattle.ide_graph.specs.Supergraph.{Supergraph, name_at}
use Rattle.ide_values.specs.Dump.{fact_columns}
use Rattle.ide_values.specs.Lines.{AreLinesTold, columns_in}
use Rattle.ide_values.specs.declared.line_text.Lines.{Lines}

-- a graph, and lines of one of its nodes
pub record ColumnsData (L : Type 0) : Type 0 where
  pub graph : Supergraph
  pub lines : Lines L

-- they are those of the facts that have a name at the node
pub record AreFactColumns (graph : Supergraph) (node : ℕ) (facts : List (List ℕ)) : Type 0 where
  pub within : node < graph.nodes
  pub each : (fact : ℕ) → fact < graph.facts → slice_get facts fact ≡ option_map (fact_columns fact) (name_at graph node fact)
  pub few : length facts ≤ graph.facts

-- lines of the facts that have a name at the node tell values of these
pub record AreLinesAt {L : Type 0} (shown : L → List ℕ) (graph : Supergraph) (node : ℕ) (lines : Lines L) : Type 0 where
  pub columns : AreFactColumns graph node (columns_in lines.facts.items)
  pub told : AreLinesTold shown lines
