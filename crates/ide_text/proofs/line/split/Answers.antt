use Rattle.std.proofs.Common.{◌++◌, [], ◌∙◌, List, ℕ, map, ap, sym}
use Rattle.std.proofs.lemmas.List.{append-nil}
use Rattle.std.proofs.lemmas.Result.{err_from_is_err_and}
use Rattle.ide_text.specs.Token.{token_text}
use Rattle.ide_text.proofs.Words.{no_tokens, first_word, last_word, proper_more, words_more}
use Rattle.ide_text.proofs.line.split.Goals as goal

pub returns-in_err-token-clause-none : goal.returns-in_err-token-clause-none
returns-in_err-token-clause-none c =
    let p = err_from_is_err_and c.from_residual.result c.from_residual.ensures.1 in
    let done = map token_text c.loop-word.tokens.items in
    let first = first_word c.loop-word.rest.now c.in-Some.word.now c.in-Some.after.now c.in-Some.ensures.0 c.in-Some.ensures.1 in
    let words = c.loop-word.invariant.words ∙ ap (λ (ws : List (List ℕ)). done ++ ws) first in
    let none = rw c.in_err-token.ensures.ok_part at c.of.ensures.none in
    let value = rw c.in_err-token.ensures.ok_part at c.in_err-token.ensures.value in
    rw (p.1, p.2) (cc value, no_tokens c.args.text.now done _ c.in-Some.word.now words none)

pub loop-word-preserved : goal.loop-word-preserved
loop-word-preserved c =
    let done = map token_text c.loop-word.tokens.items in
    let first = first_word c.loop-word.rest.now c.in-Some.word.now c.in-Some.after.now c.in-Some.ensures.0 c.in-Some.ensures.1 in
    let words = c.loop-word.invariant.words ∙ ap (λ (ws : List (List ℕ)). done ++ ws) first in
    let found = rw c.in_ok-token.ensures.ok_part at c.of.ensures.found in
    rw c.in_ok-push.ensures.items (record {
      words = words ∙ sym (words_more c.loop-word.tokens.items c.in_ok-token.token c.in-Some.word.now _ found.1);
      proper = proper_more c.loop-word.tokens.items c.in_ok-token.token c.loop-word.invariant.proper found.0;
    })

pub returns-in_err-last-clause-none : goal.returns-in_err-last-clause-none
returns-in_err-last-clause-none c =
    let p = err_from_is_err_and c.from_residual-in_err-last.result c.from_residual-in_err-last.ensures.1 in
    let done = map token_text c.loop-word.tokens.items in
    let words = c.loop-word.invariant.words ∙ ap (λ (ws : List (List ℕ)). done ++ ws) (last_word c.loop-word.rest.now c.in_default.ensures) in
    let none = rw c.in_err-last.ensures.ok_part at c.of-2.ensures.none in
    let value = rw c.in_err-last.ensures.ok_part at c.in_err-last.ensures.value in
    rw (p.1, p.2) (cc value, no_tokens c.args.text.now done _ c.loop-word.rest.now words none)

pub returns-clause-found : goal.returns-clause-found
returns-clause-found c =
    let done = map token_text c.loop-word.tokens.items in
    let words = c.loop-word.invariant.words ∙ ap (λ (ws : List (List ℕ)). done ++ ws) (last_word c.loop-word.rest.now c.in_default.ensures) in
    let found = rw c.in_ok-last.ensures.ok_part at c.of-2.ensures.found in
    rw c.in_ok-push-2.ensures.items (record {
      words = sym (append-nil _) ∙ words_more c.loop-word.tokens.items c.in_ok-last.last c.loop-word.rest.now [] found.1 ∙ sym words;
      proper = proper_more c.loop-word.tokens.items c.in_ok-last.last c.loop-word.invariant.proper found.0;
    })
