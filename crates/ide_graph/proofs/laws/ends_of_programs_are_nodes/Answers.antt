use Rattle.ide_graph.proofs.EndLemmas.{ends_nodes}
use Rattle.ide_graph.proofs.laws.ends_of_programs_are_nodes.Goals as goal

pub returns : goal.returns
returns c = ends_nodes
