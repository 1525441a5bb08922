use Rattle.ide_graph.proofs.WithinLemmas.{back_returns}
use Rattle.ide_graph.proofs.laws.back_edges_return.Goals as goal

pub returns : goal.returns
returns c = back_returns
