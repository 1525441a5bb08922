-- The graph of the program that a text spells.
use Rattle.std.specs.Prelude.{ℕ, List}
use Rattle.ide_text.specs.Parsed.{IsParsed}
use Rattle.ide_text.specs.declared.program.Program.{Program}
use Rattle.ide_graph.specs.GraphOf.{IsGraphOf}
use Rattle.ide_graph.specs.ProgramEdges.{HasEdgesOf}
use Rattle.ide_graph.specs.Supergraph.{Supergraph}

-- the text spells a program with that graph
pub record IsGraphOfText (text : List ℕ) (graph : Supergraph) : Type 0 where
  pub program : Program
  pub parsed : IsParsed text program
  pub counted : IsGraphOf program graph
  pub edges : HasEdgesOf program graph
