use Rattle.std.proofs.Common.{◌≡◌, ◌++◌, take}
use Rattle.ide_text.specs.Text.{statements_text}
use Rattle.ide_text.proofs.printer.append_statements.Given as goal

abbrev pub invariant-loop-statement : goal.invariant-loop-statement
invariant-loop-statement l = l.out.items ≡ l.fn.out.items ++ statements_text (take l.statement-index l.statements)
