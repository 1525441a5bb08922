use Rattle.std.proofs.Common.{◌∙◌, ap}
use Rattle.std.proofs.lemmas.Result.{err_from_is_err_and}
use Rattle.ide_steps.proofs.States.{handed-on}
use Rattle.ide_journal.specs.Lists.{entries_of}
use Rattle.ide_wire.specs.declared.refused.Refused.TheVariants.{NoMemory}
use Rattle.ide_slot_store.specs.Batches.{batches_of}
use Rattle.ide_slot_store.specs.Engine.{IsTableStop, no_room}
use Rattle.ide_slot_store.proofs.Stopping.{no_fold_of}
use Rattle.ide_slot_store.proofs.engine.table_over.Goals as goal

pub returns-in_err-records-clause-refused : goal.returns-in_err-records-clause-refused
returns-in_err-records-clause-refused g c =
    let p = err_from_is_err_and c.from_residual.result c.from_residual.ensures.1 in
    handed-on (IsTableStop _ c.args.writer.now (batches_of c.args.found.items)) c.from_residual.result NoMemory p.0 p.1
    (p.2 ∙ c.in_err-records.ensures.refused) no_room

pub returns-clause-refused : goal.returns-clause-refused
returns-clause-refused g c =
    no_fold_of _ c.args.writer.now c.open.result c.version.result _ (batches_of c.args.found.items) c.stored.result
    (ap entries_of c.as_slice.ensures.value ∙ c.in_ok-records.ensures.batches) c.version.ensures c.stored.ensures c.open.ensures.refused
