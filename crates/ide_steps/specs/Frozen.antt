-- What a frozen image is of.
use Rattle.std.specs.Arc.{arc_value}
use Rattle.ide_graph.specs.Supergraph.{Supergraph}
use Rattle.ide_text.specs.Value.{ProgramValue}
use Rattle.ide_steps.specs.ProgramText.{said_by}
use Rattle.ide_steps.specs.declared.closed.Closed.{Closed}
use Rattle.ide_steps.specs.declared.loaded.Loaded.{Loaded}

module _ {P L F : Type 0} where
  -- what the program of the image says
  abbrev pub program_in : Closed P L F → ProgramValue
  program_in closed = said_by (arc_value {X = Loaded P L F} closed.loaded).program

  -- the graph of the image
  abbrev pub graph_in : Closed P L F → Supergraph
  graph_in closed = (arc_value {X = Loaded P L F} closed.loaded).graph
