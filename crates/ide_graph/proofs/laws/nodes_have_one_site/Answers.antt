use Rattle.ide_graph.proofs.OneSite.{one_site}
use Rattle.ide_graph.proofs.laws.nodes_have_one_site.Goals as goal

pub returns : goal.returns
returns c = one_site
