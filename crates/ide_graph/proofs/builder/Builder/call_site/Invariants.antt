use Rattle.std.proofs.Common.{take}
use Rattle.std.specs.List.{All, AllZip}
use Rattle.ide_text.specs.declared.program.Program.{Program}
use Rattle.ide_graph.specs.Building.{IsBuilderOf, IsCallOf, node_count}
use Rattle.ide_graph.specs.Edges.{EndsWithin}
use Rattle.ide_graph.specs.ProgramEdges.{IsCall}
use Rattle.ide_graph.proofs.builder.Builder.call_site.Given as goal

abbrev pub invariant-loop-callee : goal.invariant-loop-callee
invariant-loop-callee l = record {
  within : All (EndsWithin (node_count l.self)) l.calls.items;
  exact : (p : Program) → IsBuilderOf p l.self → IsCallOf p l.call → AllZip (IsCall p l.call.node) (take l.callee-index l.call.callees.items) l.calls.items;
}
