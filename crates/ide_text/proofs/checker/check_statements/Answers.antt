use Rattle.std.proofs.Common.{◌≡◌, length, slice_get, refl, sym, ap, ◌∙◌, arith}
use Rattle.std.proofs.lemmas.Option.{slice_get_read}
use Rattle.ide_text.specs.Scope.{variables_of_scope}
use Rattle.ide_text.proofs.LineLemmas.{statements_more, statements_none}
use Rattle.ide_text.proofs.checker.check_statements.Goals as goal

pub loop-place-preserved : goal.loop-place-preserved
loop-place-preserved c =
    let scope = c.args.scope.now in
    let items = c.statements-statement-items.result.now in
    let place = c.loop-place.place in
    statements_more (variables_of_scope scope) scope.procedures.now scope.labels c.args.line place c.statement-item.result
    (ap (λ statements. slice_get statements place) (sym c.statements-statement-items.ensures) ∙ slice_get_read items (length items) place c.statement-item.result refl c.loop-place-test.true c.statement-item.is)
    c.in_default.ensures c.loop-place.invariant

pub returns : goal.returns
returns c =
    let scope = c.args.scope.now in
    statements_none (variables_of_scope scope) scope.procedures.now scope.labels c.args.line c.loop-place.place
    (let same : length c.statements-statement-items.result.now ≡ length scope.labels = ap length c.statements-statement-items.ensures in omega arith)
    c.loop-place.invariant
