use Rattle.std.proofs.Common.{◌∙◌, ap}
use Rattle.std.proofs.lemmas.Result.{err_from_is_err_and}
use Rattle.std.specs.Slice.Iter.{chunks_rest, chunks_size}
use Rattle.ide_batch.specs.Items.{functions_by}
use Rattle.ide_journal.specs.Lists.{entries_of}
use Rattle.ide_steps.proofs.States.{handed-on}
use Rattle.ide_wire.specs.declared.refused.Refused.TheVariants.{NoMemory}
use Rattle.ide_slot_store.specs.Parts.{IsSpellStop, wants_memory}
use Rattle.ide_slot_store.proofs.ImageParts.{among_all, chunk_ascends, rest_of_all, rest_of_pushed, rest_of_none, stop_among}
use Rattle.ide_slot_store.proofs.parts.parts_of.Goals as goal

pub loop-chunk-init : goal.loop-chunk-init
loop-chunk-init g c = record {
  size = ap chunks_size c.into_iter-chunk-iterator.ensures.into_iter_gives ∙ c.chunks-chunk-items.ensures.size;
  rest =
      rw (c.into_iter-chunk-iterator.ensures.into_iter_gives, c.chunks-chunk-items.ensures.rest, c.new-parts.ensures.items)
      (rest_of_none (functions_by g.F.Wire.proper g.F.Wire.form g.F.PartialEq.eq g.F.EdgeFn.edge.all_top) c.args.items.now);
}

pub part_of-requires-clause-ascending : goal.part_of-requires-clause-ascending
part_of-requires-clause-ascending g c =
    chunk_ascends (functions_by g.F.Wire.proper g.F.Wire.form g.F.PartialEq.eq g.F.EdgeFn.edge.all_top) c.args.items.now
    (chunks_rest c.loop-chunk.chunk-iterator) c.in-Some.chunk.now (chunks_rest c.next.new.self) (entries_of c.loop-chunk.parts.items)
    c.loop-chunk.invariant.rest c.in-Some.ensures.steps.1.0 c.requires

pub returns-in_err-part_of-clause-refused : goal.returns-in_err-part_of-clause-refused
returns-in_err-part_of-clause-refused g c =
    let forms = functions_by g.F.Wire.proper g.F.Wire.form g.F.PartialEq.eq g.F.EdgeFn.edge.all_top in
    let p = err_from_is_err_and c.from_residual.result c.from_residual.ensures.1 in
    handed-on (IsSpellStop forms c.args.items.now) c.from_residual.result c.in_err-part_of.field-0.0 p.0 p.1 p.2
    (stop_among forms c.in-Some.chunk.now c.args.items.now
    (among_all forms c.args.items.now (chunks_rest c.loop-chunk.chunk-iterator) c.in-Some.chunk.now (chunks_rest c.next.new.self)
    (entries_of c.loop-chunk.parts.items) c.loop-chunk.invariant.rest c.in-Some.ensures.steps.1.0)
    c.in_err-part_of.field-0.0 c.in_err-part_of.ensures.refused)

pub loop-chunk-preserved : goal.loop-chunk-preserved
loop-chunk-preserved g c =
    let forms = functions_by g.F.Wire.proper g.F.Wire.form g.F.PartialEq.eq g.F.EdgeFn.edge.all_top in
    record {
      size = c.in-Some.ensures.steps.0 ∙ c.loop-chunk.invariant.size;
      rest =
          rest_of_pushed forms c.args.items.now (chunks_rest c.loop-chunk.chunk-iterator) c.in-Some.chunk.now (chunks_rest c.next.new.self)
          c.loop-chunk.parts.items c.push.new.self.items c.in_ok-part_of.field-0 (chunks_size c.loop-chunk.chunk-iterator)
          c.loop-chunk.invariant.rest c.loop-chunk.invariant.size c.in-Some.ensures.steps.1.0 c.in-Some.ensures.steps.1.1
          c.in_ok-part_of.ensures.part c.in_ok-push.ensures.items;
    }

pub returns-in_err-push-clause-refused : goal.returns-in_err-push-clause-refused
returns-in_err-push-clause-refused g c =
    let forms = functions_by g.F.Wire.proper g.F.Wire.form g.F.PartialEq.eq g.F.EdgeFn.edge.all_top in
    let p = err_from_is_err_and c.from_residual-in_err-push.result c.from_residual-in_err-push.ensures.1 in
    handed-on (IsSpellStop forms c.args.items.now) c.from_residual-in_err-push.result NoMemory p.0 p.1 p.2 wants_memory

pub returns-clause-parts : goal.returns-clause-parts
returns-clause-parts g c =
    rest_of_all (functions_by g.F.Wire.proper g.F.Wire.form g.F.PartialEq.eq g.F.EdgeFn.edge.all_top) c.args.items.now
    (chunks_rest c.loop-chunk.chunk-iterator) (entries_of c.loop-chunk.parts.items) c.loop-chunk.invariant.rest c.in-None.ensures.steps.1.0
