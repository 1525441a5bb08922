use Rattle.ide_text.proofs.Extends.{Extends-more, OnErr-always}
use Rattle.ide_text.proofs.printer.append_bars.Goals as goal

pub returns-in_err-append-clause-extends : goal.returns-in_err-append-clause-extends
returns-in_err-append-clause-extends c =
    OnErr-always _ _ (Extends-more _ _ _ _ c.loop-name.invariant c.in_err-append.ensures.extends)
