use Rattle.ide_store.proofs.Known.{known}
use Rattle.ide_store.proofs.laws.programs_are_known.Goals as goal

pub returns : goal.returns
returns g c =
    known c.graphs_of_programs_are_closed.ensures c.sites_of_programs_are_joined.ensures g.P.L.Lattice.algebra g.P.F.EdgeFn.edge g.P.Problem.targets
    g.met.P.L.Lattice.lawful g.met.P.F.EdgeFn.lawful g.met.P.Problem.lawful c.ends_of_programs_are_nodes.ensures c.keys_stand_at_nodes.ensures
