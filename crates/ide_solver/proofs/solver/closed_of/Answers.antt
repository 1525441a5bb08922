use Rattle.std.proofs.Common.{map}
use Rattle.std.proofs.lemmas.Result.{err_from_is_err_and}
use Rattle.ide_wire.specs.declared.refused.Refused.TheVariants.{NoMemory}
use Rattle.ide_solver.specs.Refusal.{IsSolveRefusal, memory}
use Rattle.ide_solver.proofs.Results.{refused-on}
use Rattle.ide_solver.proofs.solver.closed_of.Goals as goal

-- the text is copied, so that the core may keep it
pub returns-in_err-from_slice-clause-refused : goal.returns-in_err-from_slice-clause-refused
returns-in_err-from_slice-clause-refused g c =
    let p = err_from_is_err_and c.from_residual.result c.from_residual.ensures.1 in
    refused-on (IsSolveRefusal c.args.text.now (map (λ name. name.now) c.args.roots.now)) c.from_residual.result NoMemory p.0 p.1 p.2 memory
