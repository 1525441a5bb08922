use Rattle.ide_graph.proofs.JoinedLemmas.{sites_joined}
use Rattle.ide_graph.proofs.laws.sites_of_programs_are_joined.Goals as goal

pub returns : goal.returns
returns c = sites_joined
