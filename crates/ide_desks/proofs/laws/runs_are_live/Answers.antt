use Rattle.ide_store.proofs.Known.{known}
use Rattle.ide_store.proofs.Reached.{Knows}
use Rattle.ide_store.specs.Table.{Analysis}
use Rattle.ide_desks.proofs.Apart.{runs_are_live}
use Rattle.ide_desks.proofs.laws.runs_are_live.Goals as goal

pub returns : goal.returns
returns g c =
    let a : Analysis g.row.P-F.Denot g.row.P-L.Denot = record {
      lattice = g.P.L.Lattice.algebra;
      functions = g.P.F.EdgeFn.edge;
      targets = g.P.Problem.targets;
      same = g.P.F.PartialEq.eq;
      proper = g.P.F.Wire.proper;
      form = g.P.F.Wire.form;
    } in
    let knows : Knows a = record {
      is_same = record { exact = g.met.P.F.EdgeFn.exact; refl = g.met.P.F.Eq.laws.refl };
      prefix_free = g.met.P.F.Wire.prefix_free;
      known = known c.graphs_of_programs_are_closed.ensures c.sites_of_programs_are_joined.ensures a.lattice a.functions a.targets
          g.met.P.L.Lattice.lawful g.met.P.F.EdgeFn.lawful g.met.P.Problem.lawful c.ends_of_programs_are_nodes.ensures c.keys_stand_at_nodes.ensures;
      owed = c.tasks_owe_their_parts.ensures;
      joined = c.sites_of_programs_are_joined.ensures;
      exits = c.exits_of_programs_are_owned.ensures;
      same_graphs = c.graphs_of_one_text_have_the_same_edges.ensures;
    } in
    runs_are_live a g.D.Disk knows
