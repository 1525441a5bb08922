use Rattle.std.proofs.Common.{◌≡◌, take}
use Rattle.std.specs.List.{filter_map}
use Rattle.ide_graph.specs.Building.{AreProcedures}
use Rattle.ide_graph.specs.Named.{procedure_of_name}
use Rattle.ide_graph.proofs.builder.Builder.callees.Given as goal

abbrev pub invariant-loop-name : goal.invariant-loop-name
invariant-loop-name l = record {
  known : AreProcedures l.self l.callees.items;
  found : l.callees.items ≡ filter_map (procedure_of_name l.self.directory.now.procedures) (take l.name-index l.names);
}
