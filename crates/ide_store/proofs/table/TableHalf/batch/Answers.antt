use Rattle.std.proofs.Common.{◌∙◌, arith, rules, subst}
use Rattle.std.specs.Prelude.{IfNone}
use Rattle.std.proofs.lemmas.Result.{err_from_is_err_and}
use Rattle.ide_batch.specs.Items.{AreWritten, functions_by}
use Rattle.ide_steps.proofs.States.{handed-on}
use Rattle.ide_wire.specs.declared.refused.Refused.TheVariants.{NoMemory}
use Rattle.ide_store.specs.TableCalls.{IsSealStop, no_number_left, wants_memory}
use Rattle.ide_store.proofs.Stops.{unspelled}
use Rattle.ide_store.proofs.table.TableHalf.batch.Goals as goal

pub returns-then-self-ge-MOST_RECORDS-clause-refused : goal.returns-then-self-ge-MOST_RECORDS-clause-refused
returns-then-self-ge-MOST_RECORDS-clause-refused g c =
    let most = c.if-self-ge-MOST_RECORDS.true in
    let numbered = c.self.invariant.numbered in
    rw (← c.self.view_is) (no_number_left (omega (arith, most, numbered)))

pub returns-in_err-changed-clause-refused : goal.returns-in_err-changed-clause-refused
returns-in_err-changed-clause-refused g c =
    let p = err_from_is_err_and c.from_residual.result c.from_residual.ensures.1 in
    handed-on (IsSealStop _ c.args.self.now) c.from_residual.result NoMemory p.0 p.1 (p.2 ∙ c.in_err-changed.ensures.refused) wants_memory

pub returns-in_err-raw-clause-refused : goal.returns-in_err-raw-clause-refused
returns-in_err-raw-clause-refused g c =
    let p = err_from_is_err_and c.from_residual-in_err-raw.result c.from_residual-in_err-raw.ensures.1 in
    handed-on (IsSealStop _ c.args.self.now) c.from_residual-in_err-raw.result NoMemory p.0 p.1 (p.2 ∙ c.in_err-raw.ensures.refused) wants_memory

pub returns-in_default-clause-refused : goal.returns-in_default-clause-refused
returns-in_default-clause-refused g c =
    let long = c.in_ok-changed.ensures.few in
    let few = c.self.invariant.few in
    let forms = functions_by g.P.F.Wire.proper g.P.F.Wire.form g.P.F.PartialEq.eq g.P.F.EdgeFn.edge.all_top in
    let none = subst (λ o. IfNone o (¬ (AreWritten forms c.in_ok-changed.changed))) c.in_default.is c.in_ok-raw.ensures.none in
    rw (← c.self.view_is) (unspelled _ _ c.in_ok-changed.changed c.in_ok-changed.ensures.items (search rules) (omega (arith, long, few)) none)
