use Rattle.std.proofs.Common.{◌≡◌, ◌∙◌, ◌≤◌, ◌++◌, ◌-◌, ap, arith, length, replicate, rules, sym}
use Rattle.std.proofs.lemmas.List.{length-replicate}
use Rattle.ide_desks.specs.Keeping.{unknown}
use Rattle.ide_desks.proofs.Lists.{replicate_more, unknown_marked}
use Rattle.ide_desks.proofs.Opening.{handed_on_run}
use Rattle.ide_desks.proofs.opened.seats_of.Goals as goal

pub returns-clause-seats : goal.returns-clause-seats
returns-clause-seats g c =
    let stored = c.stored-stored.result in
    let sealed = c.sealed-sealed.result in
    let few : stored ≤ sealed = (let less = c.if-stored-sealed.false in omega (arith, less)) in
    let at = c.in_ok-board-2.ensures.ok in
    let board = c.in_ok-board.board in
    let same = ap (λ t. t.sealed) c.in_ok-take_all_from.ensures.hands.rest in
    let journal = ap (λ j. j.count) c.take_all_from.ensures.journal in
    let count : sealed ≡ c.take_all_from.new.table.sealed = c.sealed-sealed.ensures ∙ sym same in
    let marks = unknown_marked stored in
    let before : c.in_ok-board.table.sealed ≡ replicate stored unknown = ap (λ t. t.sealed) c.in_ok-board.ensures.table ∙ marks in
    let all : c.seal_unknown.new.table.sealed ≡ replicate c.take_all_from.new.table.sealed unknown =
    ap (λ t. t.sealed) c.seal_unknown.ensures ∙ ap (λ xs. xs ++ replicate (sealed - stored) unknown) before ∙ replicate_more stored sealed unknown few
    ∙ ap (λ n. replicate n unknown) count in
    record {
      table_at = search rules;
      writer_at = search rules;
      sealed = ap (λ t. t.sealed) c.hand_over.ensures.table ∙ all;
      handed = ap (λ t. t.handed) c.hand_over.ensures.table ∙ ap length all ∙ length-replicate c.take_all_from.new.table.sealed unknown;
      none = ap (λ t. t.waiting) c.in_ok-take_all_from.ensures.hands.rest;
      few = (let here = c.stored-stored.ensures in omega (arith, few, here, journal, count));
      taken = ap (λ w. w.taken) c.hand_over.ensures.writer ∙ sym (ap (λ t. t.sealed) c.hand_over.ensures.table);
      stored = ap (λ w. w.stored) c.hand_over.ensures.writer ∙ ap (λ w. w.stored) c.in_ok-board.ensures.writer ∙ marks
          ∙ ap (λ n. replicate n unknown) (c.stored-stored.ensures ∙ sym journal);
    }

pub returns-clause-run : goal.returns-clause-run
returns-clause-run g c =
    handed_on_run _ _ c.args.engine.now _ c.take_all_from.ensures.journal c.take_all_from.ensures.commands c.take_all_from.ensures.few
    c.take_all_from.ensures.proper c.in_ok-take_all_from.ensures.hands
