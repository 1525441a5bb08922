use Rattle.std.proofs.Common.{rules, ◌≡◌, ◌-◌, true, false, cond, arith, length, ap, refl, subst, sym, ◌∙◌}
use Rattle.std.specs.Prelude.{nat_eq, slice_set}
use Rattle.std.proofs.lemmas.Grind.{common_steps, get_or-set_at}
use Rattle.std.proofs.lemmas.Option.{get_or_from_slice_get, slice_get_within}
use Rattle.ide_image.specs.declared.mark.Mark.TheVariants.{Settled, Waiting}
use Rattle.ide_image.specs.Queue.{AreStacked, SetsMark, is_owed, is_pending_mark, is_stacked, one_if, owed_count, pending_count, stacked_at, waiting_at}
use Rattle.ide_image.proofs.Stack.{stacked-moved, sum-moved}
use Rattle.ide_image.proofs.queue.move_top.Goals as goal

pub returns-clause-stacked : goal.returns-clause-stacked
returns-clause-stacked c =
    let marks = c.args.marks.now in
    let stack = c.args.stack.now.items in
    let after = slice_set (slice_set marks c.args.from Settled) c.args.to Waiting in
    let is : c.set-2.new.self ≡ after = c.set-2.ensures ∙ ap (λ ms. slice_set ms c.args.to Waiting) c.set.ensures in
    let off : stacked_at marks c.args.to ≡ false = ap is_stacked c.requires.settled in
    let sets : SetsMark c.args.to true (λ n. cond (nat_eq c.args.from n) false (stacked_at marks n)) (stacked_at after) = λ n. grind (arith, common_steps) in
    let long : length stack - 1 ≡ c.len-top.result - 1 = omega (arith, c.len-top.ensures) in
    subst (λ ms. AreStacked ms (slice_set stack (c.len-top.result - 1) c.args.to)) (sym is)
    (subst (λ n. AreStacked after (slice_set stack n c.args.to)) long
    (stacked-moved marks after stack (length stack - 1) c.args.from c.args.to c.requires.stacked c.requires.top off sets))

pub returns-clause-top : goal.returns-clause-top
returns-clause-top c = λ slot at.
    let stack = c.args.stack.now.items in
    let marks = c.args.marks.now in
    let top = c.len-top.result - 1 in
    let after = slice_set stack top c.args.to in
    let marked = slice_set (slice_set marks c.args.from Settled) c.args.to Waiting in
    let is : c.set-2.new.self ≡ marked = c.set-2.ensures ∙ ap (λ ms. slice_set ms c.args.to Waiting) c.set.ensures in
    let within = slice_get_within stack (length stack - 1) c.args.from c.requires.top in
    let long : length after ≡ length stack = search rules in
    let read = get_or_from_slice_get after (length after - 1) slot 0 at in
    let wrote = get_or-set_at stack top (length after - 1) c.args.to 0 (omega (arith, long, c.len-top.ensures)) (omega (arith, within, c.len-top.ensures)) in
    let waits : waiting_at marked c.args.to ≡ true = search rules in
    ap (λ ms. waiting_at ms slot) is ∙ subst (λ n. waiting_at marked n ≡ true) (sym wrote ∙ read) waits

pub returns-clause-count : goal.returns-clause-count
returns-clause-count c =
    ap pending_count (c.set-2.ensures ∙ ap (λ ms. slice_set ms c.args.to Waiting) c.set.ensures)
    ∙ sum-moved (λ m. one_if (is_pending_mark m)) refl c.args.marks.now c.args.from c.args.to c.requires.waits c.requires.settled c.requires.there

pub returns-clause-owed : goal.returns-clause-owed
returns-clause-owed c =
    ap owed_count (c.set-2.ensures ∙ ap (λ ms. slice_set ms c.args.to Waiting) c.set.ensures)
    ∙ sum-moved (λ m. one_if (is_owed m)) refl c.args.marks.now c.args.from c.args.to c.requires.waits c.requires.settled c.requires.there
