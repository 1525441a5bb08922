use Rattle.ide_graph.proofs.SameText.{same_graphs}
use Rattle.ide_graph.proofs.laws.graphs_of_one_text_have_the_same_edges.Goals as goal

pub returns : goal.returns
returns c = same_graphs c.spell_one_program.ensures
