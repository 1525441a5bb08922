use Rattle.std.proofs.Common.{◌∙◌, ◌+◌, ◌++◌, [], ◌∷◌, ap, arith, refl, rules}
use Rattle.std.proofs.lemmas.Result.{err_from_is_err_and}
use Rattle.ide_steps.proofs.States.{handed-on}
use Rattle.ide_wire.specs.declared.refused.Refused.TheVariants.{NoMemory}
use Rattle.ide_journal.specs.Lists.{entry_of}
use Rattle.ide_store.specs.TableCalls.{IsSealStop, wants_memory}
use Rattle.ide_store.proofs.Owed.{equal_held, sealed_held, unsealed_held}
use Rattle.ide_store.proofs.Sealed.{one_proper, sealed_keeps, seals_changes, seals_nothing, spelled_batch, waits_one, where_some}
use Rattle.ide_store.specs.Table.{Analysis}
use Rattle.ide_store.proofs.table.TableHalf.seal_changes.Given.{Over}
use Rattle.ide_store.proofs.table.TableHalf.seal_changes.Goals as goal

-- the analysis of the store
abbrev kept : (g : Over) → Analysis g.row.P-F.Denot g.row.P-L.Denot
kept g = record {
  lattice = g.P.L.Lattice.algebra;
  functions = g.P.F.EdgeFn.edge;
  targets = g.P.Problem.targets;
  same = g.P.F.PartialEq.eq;
  proper = g.P.F.Wire.proper;
  form = g.P.F.Wire.form;
}

pub returns-in_err-batch-clause-refused : goal.returns-in_err-batch-clause-refused
returns-in_err-batch-clause-refused g c =
    let p = err_from_is_err_and c.from_residual.result c.from_residual.ensures.1 in
    handed-on (IsSealStop _ c.args.self.now) c.from_residual.result c.in_err-batch.field-0.0 p.0 p.1 p.2 c.in_err-batch.ensures.refused

pub returns-in_default-clause-nothing : goal.returns-in_default-clause-nothing
returns-in_default-clause-nothing g c =
    rw (← c.self.view_is)
    (λ _. seals_nothing _ c.calls_are_acts.ensures _ _ c.cores_are_whole.ensures c.args.self.now c.self.view_is c.in_ok-batch.field-0 c.in_default.is
    c.in_ok-batch.ensures.spells (record { version = refl; sealed = refl; waiting = refl; failed = refl }) c.note_anew.ensures.stays)

pub returns-in_err-reserve-clause-refused : goal.returns-in_err-reserve-clause-refused
returns-in_err-reserve-clause-refused g c =
    let p = err_from_is_err_and c.from_residual-in_err-reserve.result c.from_residual-in_err-reserve.ensures.1 in
    handed-on (IsSealStop _ c.args.self.now) c.from_residual-in_err-reserve.result NoMemory p.0 p.1 p.2 wants_memory

pub invariant_of-self-2 : goal.invariant_of-self-2
invariant_of-self-2 g c =
    let room = where_some c.in_ok-batch.field-0 c.in-Some.batch c.in-Some.is c.in_ok-batch.ensures.room in
    let sealed = ap (λ table. table.sealed) c.self.view_is in
    let one = c.push.ensures.sealed in
    let same = c.in_ok-reserve.ensures.sealed in
    let spelled = spelled_batch _ c.args.self.now c.in_ok-batch.field-0 c.in-Some.batch c.in-Some.is c.in_ok-batch.ensures.spells in
    sealed_keeps c.self.inside.core c.note_anew-2.new.self c.self.inside.outbox.sealed c.push.new.self.sealed _ _ _ c.self.invariant
    (ap (λ core. core.changes) c.note_anew-2.ensures.stays) (one_proper (entry_of c.in-Some.batch) spelled.spells.proper)
    (waits_one c.self.inside.outbox.waiting.items c.push.new.self.waiting.items c.in-Some.batch (c.push.ensures.waiting ∙ ap (λ items. items ++ c.in-Some.batch ∷ []) c.in_ok-reserve.ensures.waiting))
    (omega (arith, one, same)) (omega (arith, one, same, room, sealed))

pub returns-clause-seals : goal.returns-clause-seals
returns-clause-seals g c =
    let room = where_some c.in_ok-batch.field-0 c.in-Some.batch c.in-Some.is c.in_ok-batch.ensures.room in
    let sealed = ap (λ table. table.sealed) c.self.view_is in
    rw (← c.self.view_is)
    (seals_changes _ c.calls_are_acts.ensures _ _ c.cores_are_whole.ensures c.args.self.now c.self.view_is c.in_ok-batch.field-0 c.in-Some.batch c.push.result.number
    c.in-Some.is c.in_ok-batch.ensures.spells (omega (arith, room, sealed))
    (record {
      version = refl;
      failed = refl;
      waiting = waits_one c.self.inside.outbox.waiting.items c.push.new.self.waiting.items c.in-Some.batch (c.push.ensures.waiting ∙ ap (λ items. items ++ c.in-Some.batch ∷ []) c.in_ok-reserve.ensures.waiting);
      sealed = c.push.ensures.sealed ∙ ap (λ n. n + 1) c.in_ok-reserve.ensures.sealed;
    })
    c.note_anew-2.ensures.stays (c.push.ensures.ticket ∙ c.in_ok-reserve.ensures.sealed))

pub returns-clause-few : goal.returns-clause-few
returns-clause-few g c =
    let room = where_some c.in_ok-batch.field-0 c.in-Some.batch c.in-Some.is c.in_ok-batch.ensures.room in
    let sealed = ap (λ table. table.sealed) c.self.view_is in
    let one = c.push.ensures.sealed in
    let same = c.in_ok-reserve.ensures.sealed in
    omega (arith, one, same, room, sealed)

pub returns-in_default-clause-held : goal.returns-in_default-clause-held
returns-in_default-clause-held g c =
    rw (← c.self.view_is)
    (unsealed_held _ c.calls_are_acts.ensures _ _ c.cores_are_whole.ensures c.args.self.now c.self.view_is c.in_ok-batch.field-0 c.in_default.is
    c.in_ok-batch.ensures.spells (record { version = refl; sealed = refl; waiting = refl; failed = refl }) c.note_anew.ensures.stays)

pub returns-in_err-reserve-clause-held : goal.returns-in_err-reserve-clause-held
returns-in_err-reserve-clause-held g c =
    rw (← c.self.view_is)
    (equal_held (kept g) _ _ refl (record { version = refl; sealed = search rules; waiting = search rules; failed = refl }))

pub returns-clause-held : goal.returns-clause-held
returns-clause-held g c =
    let room = where_some c.in_ok-batch.field-0 c.in-Some.batch c.in-Some.is c.in_ok-batch.ensures.room in
    let sealed = ap (λ table. table.sealed) c.self.view_is in
    rw (← c.self.view_is)
    (sealed_held _ c.calls_are_acts.ensures _ _ c.cores_are_whole.ensures c.args.self.now c.self.view_is c.in_ok-batch.field-0 c.in-Some.batch
    c.in-Some.is c.in_ok-batch.ensures.spells (omega (arith, room, sealed))
    (record {
      version = refl;
      failed = refl;
      waiting = waits_one c.self.inside.outbox.waiting.items c.push.new.self.waiting.items c.in-Some.batch (c.push.ensures.waiting ∙ ap (λ items. items ++ c.in-Some.batch ∷ []) c.in_ok-reserve.ensures.waiting);
      sealed = c.push.ensures.sealed ∙ ap (λ n. n + 1) c.in_ok-reserve.ensures.sealed;
    })
    c.note_anew-2.ensures.stays)
