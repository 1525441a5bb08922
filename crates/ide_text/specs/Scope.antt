-- What a scope knows.
use Rattle.std.specs.Prelude.{ℕ, List, ◌++◌, take}
use Rattle.ide_wire.specs.declared.refused.Fault.{Fault}
use Rattle.ide_text.specs.declared.program.Statement.{Statement}
use Rattle.ide_text.specs.declared.scope.Scope.{Scope}
use Rattle.ide_text.specs.NameFault.{StatementFault}

-- the variables: the globals, and the parameters and locals that were declared so far
abbrev pub variables_of_scope : Scope → List (List ℕ)
variables_of_scope scope = scope.globals.now ++ scope.variables

-- a fault of the statement at that place of the scope's procedure
abbrev pub FaultAt : Scope → ℕ → Statement → Fault → Type 0
FaultAt scope place = StatementFault (variables_of_scope scope) scope.procedures.now (take place scope.labels) scope.labels
