use Rattle.ide_graph.proofs.WithinLemmas.{sites_follow}
use Rattle.ide_graph.proofs.laws.return_sites_follow_calls.Goals as goal

pub returns : goal.returns
returns c = sites_follow
