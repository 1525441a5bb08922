use Rattle.std.proofs.Common.{rules, ◌∙◌}
use Rattle.std.proofs.lemmas.Result.{err_from_is_err_and}
use Rattle.ide_wire.specs.declared.refused.Refused.TheVariants.{NoMemory}
use Rattle.ide_steps.specs.CloseRefusal.{IsFreezeRefusal, fault, memory, no_program, unfinished}
use Rattle.ide_steps.proofs.States.{handed-on}
use Rattle.ide_steps.proofs.machine.Core.freeze.Goals as goal

pub returns-in_default-clause-refused : goal.returns-in_default-clause-refused
returns-in_default-clause-refused g c = fault (no_program (search rules))

pub returns-then-not-is_quiet-clause-refused : goal.returns-then-not-is_quiet-clause-refused
returns-then-not-is_quiet-clause-refused g c = fault (unfinished (search rules) (search rules))

pub returns-in_err-try_clone-clause-refused : goal.returns-in_err-try_clone-clause-refused
returns-in_err-try_clone-clause-refused g c =
    let p = err_from_is_err_and c.from_residual.result c.from_residual.ensures.1 in
    handed-on (IsFreezeRefusal {F = g.row.P-F.Denot} c.args.self.now) c.from_residual.result NoMemory p.0 p.1 p.2 (memory (search rules) (search rules))

pub returns-in_err-from_slice-clause-refused : goal.returns-in_err-from_slice-clause-refused
returns-in_err-from_slice-clause-refused g c =
    let p = err_from_is_err_and c.from_residual-in_err-from_slice.result c.from_residual-in_err-from_slice.ensures.1 in
    handed-on (IsFreezeRefusal {F = g.row.P-F.Denot} c.args.self.now) c.from_residual-in_err-from_slice.result NoMemory p.0 p.1 p.2 (memory (search rules) (search rules))

pub returns-in_err-copy_tables-clause-refused : goal.returns-in_err-copy_tables-clause-refused
returns-in_err-copy_tables-clause-refused g c =
    let p = err_from_is_err_and c.from_residual-in_err-copy_tables.result c.from_residual-in_err-copy_tables.ensures.1 in
    handed-on (IsFreezeRefusal {F = g.row.P-F.Denot} c.args.self.now) c.from_residual-in_err-copy_tables.result NoMemory p.0 p.1 (p.2 ∙ c.in_err-copy_tables.ensures.refused) (memory (search rules) (search rules))
