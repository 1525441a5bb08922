use Rattle.std.proofs.Common.{◌≡◌, ℕ, Some, length}
use Rattle.std.specs.Prelude.{slice_get}
use Rattle.std.specs.List.{All}
use Rattle.ide_text.specs.declared.program.Program.{Program}
use Rattle.ide_graph.specs.Building.{AllCallersFrom, IsBuilderOf, ListsCallers, node_count}
use Rattle.ide_graph.specs.Edges.{EdgesWithin}
use Rattle.ide_graph.specs.declared.site.Site.{Site}
use Rattle.ide_graph.specs.ProgramEdges.{IsSiteOf}
use Rattle.ide_graph.proofs.builder.Builder.sites.Given as goal

abbrev pub invariant-loop-node : goal.invariant-loop-node
invariant-loop-node l = record {
  callers : ListsCallers l.self l.callers.items;
  whole : length l.sites.items ≡ l.node;
  within : All (EdgesWithin (node_count l.self)) l.sites.items;
  exact : (p : Program) → IsBuilderOf p l.self → (node : ℕ) (site : Site) → slice_get l.sites.items node ≡ Some site → IsSiteOf p node site;
  left : (p : Program) → IsBuilderOf p l.self → AllCallersFrom p l.node l.callers.items;
}
