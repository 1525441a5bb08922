use Rattle.std.proofs.Common.{◌∙◌, arith}
use Rattle.std.proofs.lemmas.Result.{IfErr-weaker, IfOk-weaker, err_from_is_err_and}
use Rattle.ide_journal.specs.Lists.{entries_of}
use Rattle.ide_steps.proofs.States.{handed-on}
use Rattle.ide_wire.specs.declared.refused.Refused.TheVariants.{NoMemory}
use Rattle.ide_slot_store.specs.Parts.{AreImageParts, AreInParts, IsPartsStop, IsSpellStop, many_keys, memory_is_wanting}
use Rattle.ide_store.specs.Table.{Analysis, forms_of}
use Rattle.ide_slot_store.proofs.ImageParts.{items_in, image_parts_are, parts_stop}
use Rattle.ide_slot_store.proofs.parts.image_parts.Goals as goal

pub returns-in_err-items-clause-refused : goal.returns-in_err-items-clause-refused
returns-in_err-items-clause-refused g c =
    let p = err_from_is_err_and c.from_residual.result c.from_residual.ensures.1 in
    handed-on (IsPartsStop _ c.args.table.now) c.from_residual.result NoMemory p.0 p.1 (p.2 ∙ c.in_err-items.ensures.refused) memory_is_wanting

pub returns-then-len-gt-MOST_KEYS-clause-refused : goal.returns-then-len-gt-MOST_KEYS-clause-refused
returns-then-len-gt-MOST_KEYS-clause-refused g c =
    let most = c.if-len-gt-MOST_KEYS.true in
    let long = c.len.ensures in
    many_keys c.in_ok-items.items.items (items_in c.args.table.now.core c.core.result.now c.in_ok-items.items.items c.core.ensures c.in_ok-items.ensures.items) (omega (arith, most, long))

pub returns-clause-parts : goal.returns-clause-parts
returns-clause-parts g c =
    let a : Analysis g.row.P-F.Denot g.row.P-L.Denot = record {
      lattice = g.P.L.Lattice.algebra;
      functions = g.P.F.EdgeFn.edge;
      targets = g.P.Problem.targets;
      same = g.P.F.PartialEq.eq;
      proper = g.P.F.Wire.proper;
      form = g.P.F.Wire.form;
    } in
    let most = c.if-len-gt-MOST_KEYS.false in
    let long = c.len.ensures in
    IfOk-weaker c.parts_of.result (λ parts. AreInParts (forms_of a) c.as_slice.result.now (entries_of parts.items))
    (λ parts. AreImageParts a c.args.table.now (entries_of parts.items))
    (λ parts are.
    image_parts_are a _ c.in_ok-items.items.items (entries_of parts.items) (items_in c.args.table.now.core c.core.result.now c.in_ok-items.items.items c.core.ensures c.in_ok-items.ensures.items) (rw (← c.as_slice.ensures.value) are) (omega (arith, most, long)))
    c.parts_of.ensures.parts

pub returns-clause-refused : goal.returns-clause-refused
returns-clause-refused g c =
    let a : Analysis g.row.P-F.Denot g.row.P-L.Denot = record {
      lattice = g.P.L.Lattice.algebra;
      functions = g.P.F.EdgeFn.edge;
      targets = g.P.Problem.targets;
      same = g.P.F.PartialEq.eq;
      proper = g.P.F.Wire.proper;
      form = g.P.F.Wire.form;
    } in
    IfErr-weaker c.parts_of.result (IsSpellStop (forms_of a) c.as_slice.result.now) (IsPartsStop a c.args.table.now)
    (λ refused stop.
    parts_stop a _ c.in_ok-items.items.items (items_in c.args.table.now.core c.core.result.now c.in_ok-items.items.items c.core.ensures c.in_ok-items.ensures.items) refused (rw (← c.as_slice.ensures.value) stop))
    c.parts_of.ensures.refused
