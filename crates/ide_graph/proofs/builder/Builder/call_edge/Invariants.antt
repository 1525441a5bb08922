use Rattle.std.proofs.Common.{take}
use Rattle.ide_text.specs.declared.program.Program.{Program}
use Rattle.ide_graph.specs.Building.{IsBuilderOf, IsCallOf}
use Rattle.ide_graph.specs.ProgramEdges.{ArePassed, IsCallee}
use Rattle.ide_graph.proofs.builder.Builder.call_edge.Given as goal

abbrev pub invariant-loop-index : goal.invariant-loop-index
invariant-loop-index l =
    (p : Program) → IsBuilderOf p l.self → (is : IsCallOf p l.call) → IsCallee p is.at.callees.items l.callee → ArePassed p is.at.procedure (take l.index l.call.arguments.now) l.passed.items
