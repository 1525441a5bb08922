use Rattle.ide_store.proofs.laws.analyses_are_known.Goals as goal

pub returns : goal.returns
returns g c = record {
  is_same = record { exact = g.met.P.F.EdgeFn.exact; refl = g.met.P.F.Eq.laws.refl };
  prefix_free = g.met.P.F.Wire.prefix_free;
  known = c.programs_are_known.ensures;
  owed = c.tasks_owe_their_parts.ensures;
  joined = c.sites_of_programs_are_joined.ensures;
  exits = c.exits_of_programs_are_owned.ensures;
  same_graphs = c.graphs_of_one_text_have_the_same_edges.ensures;
}
