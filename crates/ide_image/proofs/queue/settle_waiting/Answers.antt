use Rattle.std.proofs.Common.{◌+◌, ap, false, sym, subst, ◌∙◌}
use Rattle.std.specs.Prelude.{nat_eq, slice_get}
use Rattle.std.specs.List.{count_by}
use Rattle.ide_image.specs.Queue.{SetsMark, one_if, stacked_at}
use Rattle.ide_image.proofs.Stack.{stacked-fewer, stacked-is, stacked-settled, stacked-there, swapped-times}
use Rattle.ide_image.proofs.queue.settle_waiting.Goals as goal

pub returns-in-Some-clause-stacked : goal.returns-in-Some-clause-stacked
returns-in-Some-clause-stacked c =
    let marks = c.args.marks.now in
    let stack = c.args.stack.now.items in
    let at = ap (λ xs. slice_get xs c.in-Some.position) (sym c.deref.ensures.value) ∙ c.in-Some.ensures in
    let on = stacked-is marks stack c.in-Some.position c.args.slot c.requires.stacked at in
    let sets : SetsMark c.args.slot false (stacked_at marks) (stacked_at c.set.new.self) =
    subst (λ after. SetsMark c.args.slot false (stacked_at marks) (stacked_at after)) (sym c.set.ensures)
    (stacked-settled marks c.args.slot (stacked-there marks stack c.in-Some.position c.args.slot c.requires.stacked at)) in
    stacked-fewer marks c.set.new.self stack c.swap_remove.new.self.items c.args.slot c.requires.stacked on
    (λ n. ap (λ xs. count_by (λ s. nat_eq s n) xs + one_if (nat_eq c.args.slot n)) c.swap_remove.ensures.items ∙ swapped-times stack c.in-Some.position c.args.slot c.swap_remove.result at n)
    sets
