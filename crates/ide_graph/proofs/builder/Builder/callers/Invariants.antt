use Rattle.ide_text.specs.declared.program.Program.{Program}
use Rattle.ide_graph.specs.Building.{AllCallersBefore, IsBuilderOf, ListsCallers}
use Rattle.ide_graph.proofs.builder.Builder.callers.Given as goal

abbrev pub invariant-loop-node : goal.invariant-loop-node
invariant-loop-node l = record {
  lists : ListsCallers l.self l.callers.items;
  exact : (p : Program) → IsBuilderOf p l.self → AllCallersBefore p l.node l.callers.items;
}
