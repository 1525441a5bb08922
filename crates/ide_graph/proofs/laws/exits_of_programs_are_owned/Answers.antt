use Rattle.ide_graph.proofs.ExitLemmas.{exits_owned}
use Rattle.ide_graph.proofs.laws.exits_of_programs_are_owned.Goals as goal

pub returns : goal.returns
returns c = exits_owned
