use Rattle.std.proofs.Common.{◌∙◌, subst}
use Rattle.std.specs.Prelude.{IfNone}
use Rattle.std.proofs.lemmas.Result.{err_from_is_err_and}
use Rattle.ide_batch.specs.Items.{AreWritten, functions_by}
use Rattle.ide_steps.proofs.States.{handed-on}
use Rattle.ide_wire.specs.declared.refused.Refused.TheVariants.{NoMemory}
use Rattle.ide_slot_store.specs.Parts.{IsSpellStop, wants_memory}
use Rattle.ide_slot_store.proofs.ImageParts.{not_written}
use Rattle.ide_slot_store.proofs.parts.part_of.Goals as goal

pub returns-in_err-part-clause-refused : goal.returns-in_err-part-clause-refused
returns-in_err-part-clause-refused g c =
    let p = err_from_is_err_and c.from_residual.result c.from_residual.ensures.1 in
    handed-on (IsSpellStop (functions_by g.F.Wire.proper g.F.Wire.form g.F.PartialEq.eq g.F.EdgeFn.edge.all_top) c.args.items.now)
    c.from_residual.result NoMemory p.0 p.1 (p.2 ∙ c.in_err-part.ensures.refused) wants_memory

pub returns-in_default-clause-refused : goal.returns-in_default-clause-refused
returns-in_default-clause-refused g c =
    let forms = functions_by g.F.Wire.proper g.F.Wire.form g.F.PartialEq.eq g.F.EdgeFn.edge.all_top in
    not_written forms c.args.items.now c.requires.some c.requires.few c.requires.ascending
    (subst (λ o. IfNone o (¬ (AreWritten forms c.args.items.now))) c.in_default.is c.in_ok-part.ensures.none)
