use Rattle.ide_graph.proofs.WithinLemmas.{call_enters}
use Rattle.ide_graph.proofs.laws.call_edges_enter.Goals as goal

pub returns : goal.returns
returns c = call_enters
