use Rattle.std.proofs.Common.{take}
use Rattle.ide_tasks.proofs.Told.{AreTold}
use Rattle.ide_tasks.proofs.source_list.SourceList.of.Given as goal

-- the places tell the sources that were gone over
abbrev pub invariant-loop-source : goal.invariant-loop-source
invariant-loop-source g l = AreTold g.F.EdgeFn.edge.all_top l.functions.items l.places.items (take l.source-index l.sources)
