use Rattle.std.proofs.Common.{◌∙◌, ◌<◌, ◌≤◌, ◌++◌, ℕ, List, ap, length, subst}
use Rattle.std.specs.Prelude.{IfNone}
use Rattle.std.proofs.lemmas.Result.{err_from_is_err_and}
use Rattle.ide_steps.proofs.States.{handed-on}
use Rattle.ide_wire.specs.declared.refused.Refused.TheVariants.{NoMemory}
use Rattle.ide_store.specs.TableCalls.{IsRootStop, long_name, memory_wanting}
use Rattle.ide_store.proofs.Stops.{over_bound}
use Rattle.ide_store.proofs.table.TableHalf.root_record.Goals as goal

pub returns-in_err-extend_from_slice-clause-refused : goal.returns-in_err-extend_from_slice-clause-refused
returns-in_err-extend_from_slice-clause-refused g c =
    let p = err_from_is_err_and c.from_residual.result c.from_residual.ensures.1 in
    handed-on (IsRootStop _ c.args.self.now c.args.name.now) c.from_residual.result NoMemory p.0 p.1 p.2 memory_wanting

pub returns-in_err-raw-clause-refused : goal.returns-in_err-raw-clause-refused
returns-in_err-raw-clause-refused g c =
    let p = err_from_is_err_and c.from_residual-in_err-raw.result c.from_residual-in_err-raw.ensures.1 in
    handed-on (IsRootStop _ c.args.self.now c.args.name.now) c.from_residual-in_err-raw.result NoMemory p.0 p.1 (p.2 ∙ c.in_err-raw.ensures.refused) memory_wanting

pub returns-clause-refused : goal.returns-clause-refused
returns-clause-refused g c =
    let is = c.in_ok-extend_from_slice.ensures.items ∙ ap (λ bytes. bytes ++ c.args.name.now) c.new-copy.ensures.items in
    let copy = c.extend_from_slice.new.self.items in
    let over = over_bound (length copy) 4194304 (subst (λ o. IfNone o (¬ (length copy ≤ 4194304))) c.in-None.is c.in_ok-raw.ensures.none) in
    long_name (subst (λ (bytes : List ℕ). 4194304 < length bytes) is over)
