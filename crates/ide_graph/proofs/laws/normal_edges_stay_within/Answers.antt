use Rattle.ide_graph.proofs.WithinLemmas.{normal_within}
use Rattle.ide_graph.proofs.laws.normal_edges_stay_within.Goals as goal

pub returns : goal.returns
returns c = normal_within
