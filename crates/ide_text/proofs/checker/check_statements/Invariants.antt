use Rattle.std.proofs.Common.{◌+◌}
use Rattle.ide_text.specs.NameFault.{StatementsFault}
use Rattle.ide_text.proofs.LineLemmas.{NoneBelow}
use Rattle.ide_text.specs.Scope.{variables_of_scope}
use Rattle.ide_text.proofs.checker.check_statements.Given as goal

abbrev pub invariant-loop-place : goal.invariant-loop-place
invariant-loop-place l =
    NoneBelow (StatementsFault (variables_of_scope l.scope) l.scope.procedures.now l.scope.labels l.line) (l.line + l.place)
