use Rattle.ide_text.proofs.Extends.{Extends-more, OnErr-always}
use Rattle.ide_text.proofs.printer.append_statements.Goals as goal

pub returns-in_err-append_statement-clause-extends : goal.returns-in_err-append_statement-clause-extends
returns-in_err-append_statement-clause-extends c =
    OnErr-always _ _ (Extends-more _ _ _ _ c.loop-statement.invariant c.in_err-append_statement.ensures.extends)
