use Rattle.ide_graph.proofs.ClosedLemmas.{graphs_closed}
use Rattle.ide_graph.proofs.laws.graphs_of_programs_are_closed.Goals as goal

pub returns : goal.returns
returns c = graphs_closed
