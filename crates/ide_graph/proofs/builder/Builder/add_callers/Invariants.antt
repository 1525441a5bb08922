use Rattle.std.proofs.Common.{take}
use Rattle.ide_text.specs.declared.program.Program.{Program}
use Rattle.ide_graph.specs.Building.{AllCallersBefore, IsBuilderOf, IsCallOf, ListsCallers}
use Rattle.ide_graph.proofs.CallerLemmas.{CallersAmid}
use Rattle.ide_graph.proofs.builder.Builder.add_callers.Given as goal

abbrev pub invariant-loop-callee : goal.invariant-loop-callee
invariant-loop-callee l = record {
  lists : ListsCallers l.self l.callers.items;
  exact : (p : Program) → IsBuilderOf p l.self → IsCallOf p l.call → AllCallersBefore p l.call.node l.initial.callers.items → CallersAmid p l.call.node (take l.callee-index l.call.callees.items) l.callers.items;
}
