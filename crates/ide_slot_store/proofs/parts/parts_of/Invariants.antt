use Rattle.std.proofs.Common.{◌≡◌}
use Rattle.std.specs.Slice.Iter.{chunks_rest, chunks_size}
use Rattle.ide_batch.specs.Items.{functions_by}
use Rattle.ide_journal.specs.Lists.{entries_of}
use Rattle.ide_slot_store.proofs.ImageParts.{IsRest}
use Rattle.ide_slot_store.proofs.parts.parts_of.Given as goal

-- what is left of the items, behind those of the parts so far
abbrev pub invariant-loop-chunk : goal.invariant-loop-chunk
invariant-loop-chunk g l = record {
  size : chunks_size l.chunk-iterator ≡ 65536;
  rest : IsRest (functions_by g.F.Wire.proper g.F.Wire.form g.F.PartialEq.eq g.F.EdgeFn.edge.all_top) l.items (chunks_rest l.chunk-iterator) (entries_of l.parts.items);
}
