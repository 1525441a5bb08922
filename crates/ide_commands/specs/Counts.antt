-- What `check` prints of a text.
use Rattle.std.specs.Prelude.{◌≡◌, ℕ, List, ◌++◌, codes, decimal}
use Rattle.ide_graph.specs.GraphOfText.{IsGraphOfText}
use Rattle.ide_graph.specs.Supergraph.{Supergraph}

-- what is counted, and its count
abbrev pub counted_text : List ℕ → ℕ → List ℕ
counted_text counted count = counted ++ decimal count

-- the line of the counts of a graph
abbrev pub counts_line : Supergraph → List ℕ
counts_line graph =
    counted_text (codes "ok procedures ") graph.procedures
    ++ (counted_text (codes " nodes ") graph.nodes ++ (counted_text (codes " facts ") graph.facts ++ codes "\n"))

-- the line of the counts of the graph of the program that the text spells stands behind what was there
pub record AppendsCounts (text before after : List ℕ) : Type 0 where
  pub graph : Supergraph
  pub is : IsGraphOfText text graph
  pub appended : after ≡ before ++ counts_line graph
