use Rattle.std.proofs.Common.{[], ◌∷◌, ◌++◌, ◌∙◌, List, ap, sym, arith}
use Rattle.std.proofs.lemmas.List.{length-append}
use Rattle.std.proofs.lemmas.Result.{err_from_is_err_and}
use Rattle.ide_text.specs.declared.token.Token.{Token}
use Rattle.ide_text.specs.declared.token.Token.TheVariants as token
use Rattle.ide_text.specs.Token.{callee_tokens}
use Rattle.ide_text.proofs.Lines.{bar_names, callees_more, more_callees}
use Rattle.ide_text.proofs.line.callees.Goals as goal

pub returns-in_err-next-clause-none : goal.returns-in_err-next-clause-none
returns-in_err-next-clause-none c =
    let p = err_from_is_err_and c.from_residual-in_err-next.result c.from_residual-in_err-next.ensures.1 in
    let none = rw c.in_err-next.ensures.ok_part at c.callee-in-Some.ensures.none in
    let value = rw c.in_err-next.ensures.ok_part at c.in_err-next.ensures.value in
    let read = c.loop-after.callees.items in
    let rest = c.loop-after.rest.now in
    rw (p.1, p.2) (
      cc value,
      λ callees arguments some e.
          let more = more_callees callees read arguments rest some c.loop-after.invariant.some (e ∙ sym c.loop-after.invariant.split) in
          let name = bar_names more.0 arguments c.in-Some.after.now (more.1 ∙ c.in-Some.ensures.found) in
          none name.0 name.1 name.2,
    )

pub loop-after-preserved : goal.loop-after-preserved
loop-after-preserved c =
    let read = c.loop-after.callees.items in
    let found = rw c.in_ok-next.ensures.ok_part at c.callee-in-Some.ensures.found in
    rw (c.in_ok-push-2.ensures.items, c.copy-in-Some.ensures) (record {
      some = omega (arith, length-append read (c.in_ok-next.next.now ∷ []));
      split =
          callees_more read c.in_ok-next.next.now c.in_ok-next.behind.now c.loop-after.invariant.some
          ∙ ap (λ (ts : List Token). callee_tokens read ++ token.Bar ∷ ts) (sym found)
          ∙ ap (λ (ts : List Token). callee_tokens read ++ ts) (sym c.in-Some.ensures.found)
          ∙ c.loop-after.invariant.split;
    })
