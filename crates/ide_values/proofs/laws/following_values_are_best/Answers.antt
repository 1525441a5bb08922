use Rattle.ide_values.proofs.Best.{following_best}
use Rattle.ide_values.proofs.laws.following_values_are_best.Goals as goal

pub returns : goal.returns
returns g c =
    following_best g.P.L.Lattice.algebra g.met.P.L.Lattice.lawful g.P.F.EdgeFn.edge g.P.Problem.targets
    c.runs_are_best.ensures c.runs_are_sound.ensures c.sites_make_a_graph.ensures c.sites_of_programs_are_joined.ensures c.graphs_of_programs_are_closed.ensures
