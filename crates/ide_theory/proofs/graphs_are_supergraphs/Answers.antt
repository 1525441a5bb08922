use Rattle.ide_graph.specs.Joined.{start_at}
use Rattle.ide_theory.specs.Sites.{HaveEdgesOf}
use Rattle.ide_theory.proofs.Laws.Programs.{site-lawful}
use Rattle.ide_theory.proofs.graphs_are_supergraphs.Goals as goal

pub returns : goal.returns
returns g c p graph is has =
    let lawful = c.edges_are_lawful.ensures p in
    let all : HaveEdgesOf graph.facts graph.sites = λ n s at. site-lawful p lawful graph.facts is.counts.0 n s (has n s at) in
    let made = c.sites_make_a_graph.ensures graph.facts graph.sites all (start_at graph) (c.sites_of_programs_are_joined.ensures p graph is has) in
    (all, made.0, made.1)
