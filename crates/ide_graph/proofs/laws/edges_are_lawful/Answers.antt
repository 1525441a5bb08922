use Rattle.ide_graph.proofs.LawfulLemmas.{edges_lawful}
use Rattle.ide_graph.proofs.laws.edges_are_lawful.Goals as goal

pub returns : goal.returns
returns c = edges_lawful
