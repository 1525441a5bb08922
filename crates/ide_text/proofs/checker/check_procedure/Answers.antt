use Rattle.std.proofs.Common.{◌≡◌, ℕ, List, Result, subst}
use Rattle.ide_wire.specs.declared.refused.Refused.{Refused}
use Rattle.ide_text.specs.declared.program.Procedure.{Procedure}
use Rattle.ide_text.specs.First.{Checked}
use Rattle.ide_text.specs.NameFault.{ProcedureFault}
use Rattle.ide_text.proofs.checker.check_procedure.Goals as goal

-- what was found in a procedure, by other names for the same
same : (globals globals' : List (List ℕ)) (procedures procedures' : List Procedure) (q : Procedure) (line : ℕ) (r : Result (Unit {0}) Refused) → globals ≡ globals' → procedures ≡ procedures'
    → Checked (ProcedureFault globals procedures q line) r → Checked (ProcedureFault globals' procedures' q line) r
same globals globals' procedures procedures' q line r e f checked =
    subst (λ (ps : List Procedure). Checked (ProcedureFault globals' ps q line) r) f (subst (λ (gs : List (List ℕ)). Checked (ProcedureFault gs procedures q line) r) e checked)

pub returns : goal.returns
returns c =
    let scope = c.in_ok-scope.scope in
    same scope.globals.now c.args.globals.now scope.procedures.now c.args.procedures.now c.args.procedure.now c.args.line c.check_in_scope.result c.in_ok-scope.ensures.globals c.in_ok-scope.ensures.procedures c.check_in_scope.ensures
