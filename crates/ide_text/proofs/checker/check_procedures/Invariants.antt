use Rattle.std.proofs.Common.{◌≡◌}
use Rattle.ide_text.specs.NameFault.{NameFault, line_of_procedure}
use Rattle.ide_text.proofs.LineLemmas.{NoneBelow}
use Rattle.ide_text.proofs.checker.check_procedures.Given as goal

abbrev pub invariant-loop-place : goal.invariant-loop-place
invariant-loop-place l = record {
  counted : l.line ≡ line_of_procedure l.draft l.place;
  none : NoneBelow (NameFault l.draft) (line_of_procedure l.draft l.place);
}
