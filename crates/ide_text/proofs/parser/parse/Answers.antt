use Rattle.std.proofs.Common.{arith}
use Rattle.std.proofs.lemmas.Result.{err_from_is_err_and}
use Rattle.ide_text.specs.Parsed.{IsRefusalOf, Too_long}
use Rattle.ide_text.proofs.Parsed.{refused_lines, refused_names, handed_on}
use Rattle.ide_text.proofs.parser.parse.Goals as goal

pub returns-then-text-gt-MAX_TEXT-clause-fault : goal.returns-then-text-gt-MAX_TEXT-clause-fault
returns-then-text-gt-MAX_TEXT-clause-fault c = Too_long c.if-text-gt-MAX_TEXT.true

pub returns-in_err-draft-clause-fault : goal.returns-in_err-draft-clause-fault
returns-in_err-draft-clause-fault c =
    let p = err_from_is_err_and c.from_residual.result c.from_residual.ensures.1 in
    handed_on (IsRefusalOf c.args.text.now) c.from_residual.result c.in_err-draft.field-0.0 p.0 p.1 p.2
    (refused_lines c.args.text.now c.in_err-draft.field-0.0 (omega (arith, c.if-text-gt-MAX_TEXT.false)) c.in_err-draft.ensures.faults)

pub returns-in_err-check-clause-fault : goal.returns-in_err-check-clause-fault
returns-in_err-check-clause-fault c =
    let p = err_from_is_err_and c.from_residual-in_err-check.result c.from_residual-in_err-check.ensures.1 in
    handed_on (IsRefusalOf c.args.text.now) c.from_residual-in_err-check.result c.in_err-check.field-0.0 p.0 p.1 p.2
    (refused_names c.args.text.now c.in_ok-draft.draft c.in_err-check.field-0.0 (omega (arith, c.if-text-gt-MAX_TEXT.false))
    c.in_ok-draft.ensures.spelled c.in_ok-draft.ensures.limits c.in_err-check.ensures.names)
