use Rattle.std.proofs.Common.{◌∙◌, sym}
use Rattle.std.proofs.lemmas.Result.{err_from_is_err_and}
use Rattle.ide_text.proofs.Lines.{after_call, more_callees, no_bar, no_line_weaker}
use Rattle.ide_text.proofs.line.call.Goals as goal

pub returns-in_err-arguments-clause-none : goal.returns-in_err-arguments-clause-none
returns-in_err-arguments-clause-none c =
    let p = err_from_is_err_and c.from_residual-in_err-arguments.result c.from_residual-in_err-arguments.ensures.1 in
    let rest = c.in_ok-callees.rest.now in
    let found = c.in_ok-callees.ensures.found in
    rw (p.1, p.2) (no_line_weaker _ _
    (λ none s some same.
    let called = after_call c.args.target c.args.called.now s some same in
    let more = more_callees called.0 c.in_ok-callees.callees.items called.1 rest called.2 found.some (called.3 ∙ sym found.split) in
    none called.1 (no_bar more.0 called.1 rest more.1 found.all)) _ c.in_err-arguments.ensures.none)
