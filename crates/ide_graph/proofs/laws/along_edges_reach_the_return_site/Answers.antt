use Rattle.ide_graph.proofs.WithinLemmas.{along_reaches}
use Rattle.ide_graph.proofs.laws.along_edges_reach_the_return_site.Goals as goal

pub returns : goal.returns
returns c = along_reaches
