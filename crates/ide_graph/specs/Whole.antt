-- What a graph's fields keep of one another.
use Rattle.std.specs.Prelude.{◌+◌, ◌<◌, ◌≤◌, ◌^◌, ◌≡◌, List, min, map, length}
use Rattle.std.specs.Arc.{arc_value}
use Rattle.std.specs.List.{All}
use Rattle.ide_graph.specs.declared.graph.Graph.TheInside.{Inside}
use Rattle.ide_graph.specs.Edges.{EdgesWithin}
use Rattle.ide_graph.specs.Numbered.{StandWithin}
use Rattle.ide_graph.specs.declared.site.Site.{Site}
use Rattle.ide_graph.specs.Steps.{AreStepsOf}
use Rattle.ide_graph.specs.Supergraph.{Supergraph}

-- the sites, which have many holders
abbrev pub sites_of : Inside → List Site
sites_of graph = (arc_value graph.sites).items

-- the counts, and what stands where: numbers of facts stop at the greatest that a fact has
abbrev pub counts_of : Inside → Supergraph
counts_of graph = record {
  procedures = length graph.layouts.items;
  nodes = length (sites_of graph);
  facts = min (length graph.globals.names + 2 + graph.most_own) 65536;
  entries = min (length graph.globals.names + 1) 65535;
  owners = graph.owners.items;
  starts = map (λ layout. layout.start) graph.layouts.items;
  exits = map (λ layout. layout.exit) graph.layouts.items;
  parameters = map (λ layout. layout.parameter_count) graph.layouts.items;
  sites = sites_of graph;
  named = graph.directory.procedures;
  globals = graph.globals.names;
  own = map (λ layout. layout.own) graph.layouts.items;
}

-- sites, steps, procedures and names speak of the graph's own nodes, procedures and facts
pub record IsWhole (graph : Inside) : Type 0 where
  pub few : length (sites_of graph) < 2 ^ 32
  pub edges : All (EdgesWithin (length (sites_of graph))) (sites_of graph)
  pub owners : length graph.owners.items ≡ length (sites_of graph)
  pub owned : All (λ procedure. procedure < length graph.layouts.items) graph.owners.items
  pub placed : StandWithin (length (sites_of graph)) graph.layouts.items
  pub named : graph.directory.count ≡ length graph.layouts.items
  pub own : All (λ layout. length layout.own ≤ graph.most_own) graph.layouts.items
  pub stepped : AreStepsOf (min (length graph.globals.names + 2 + graph.most_own) 65536) (sites_of graph) graph.steps.items
