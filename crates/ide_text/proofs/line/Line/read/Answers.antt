use Rattle.std.proofs.Common.{◌∙◌, sym}
use Rattle.std.proofs.lemmas.Result.{err_from_is_err_and, IfOk-weaker, IfErr-weaker}
use Rattle.ide_text.proofs.Lines.{no_line_weaker}
use Rattle.ide_text.proofs.Words.{Tokenizes-line, Tokenizes-one, line_from_tokens, line_proper}
use Rattle.ide_text.proofs.line.Line.read.Goals as goal

pub returns-in_err-split-clause-none : goal.returns-in_err-split-clause-none
returns-in_err-split-clause-none c =
    let p = err_from_is_err_and c.from_residual.result c.from_residual.ensures.1 in
    rw (p.1, p.2) (no_line_weaker _ _ (λ none l is e. none _ (Tokenizes-line l c.args.text.now is e)) _ c.in_err-split.ensures.none)

pub returns-clause-found : goal.returns-clause-found
returns-clause-found c =
    let found = c.in_ok-split.ensures.found in
    IfOk-weaker _ _ _ (λ l h. line_from_tokens l c.args.text.now c.split.new.tokens.items found (h.0 ∙ c.deref.ensures.value) h.1) c.line_of.ensures.found

pub returns-clause-none : goal.returns-clause-none
returns-clause-none c =
    let found = c.in_ok-split.ensures.found in
    IfErr-weaker _ _ _ (λ flaw. no_line_weaker _ _ (λ none l is e.
    none l (line_proper l is).1 (Tokenizes-one c.args.text.now _ _ (Tokenizes-line l c.args.text.now is e) found ∙ sym c.deref.ensures.value)) flaw) c.line_of.ensures.none
