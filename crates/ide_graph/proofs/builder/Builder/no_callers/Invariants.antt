use Rattle.std.proofs.Common.{◌≡◌, [], length}
use Rattle.std.specs.List.{All}
use Rattle.ide_graph.specs.Building.{node_count}
use Rattle.ide_graph.specs.Edges.{AllCallersWithin}
use Rattle.ide_graph.proofs.builder.Builder.no_callers.Given as goal

abbrev pub invariant-loop-layout : goal.invariant-loop-layout
invariant-loop-layout l = record {
  whole : length l.callers.items ≡ l._layout-index;
  within : AllCallersWithin (node_count l.self) l.callers.items;
  empty : All (λ calls. calls.items ≡ []) l.callers.items;
}
