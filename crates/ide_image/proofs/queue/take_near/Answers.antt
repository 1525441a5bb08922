use Rattle.std.proofs.Common.{◌+◌, ◌≤◌, ◌^◌, ap, sym, subst, ◌∙◌}
use Rattle.std.specs.Prelude.{nat_eq, slice_get}
use Rattle.std.specs.List.{count_by}
use Rattle.ide_image.specs.Queue.{one_if}
use Rattle.ide_image.proofs.Stack.{stacked-fewer, stacked-is, swapped-times}
use Rattle.ide_image.proofs.queue.take_near.Goals as goal

pub take_off-requires-clause-stacked : goal.take_off-requires-clause-stacked
take_off-requires-clause-stacked c =
    let at = ap (λ xs. slice_get xs c.in-Some.position) (sym c.deref.ensures.value) ∙ c.in-Some.ensures in
    stacked-is c.args.marks.now c.args.stack.now.items c.in-Some.position c.args.slot c.requires.stack.stacked at

pub returns-in-Some-clause-stack : goal.returns-in-Some-clause-stack
returns-in-Some-clause-stack c =
    let marks = c.args.marks.now in
    let stack = c.args.stack.now.items in
    let at = ap (λ xs. slice_get xs c.in-Some.position) (sym c.deref.ensures.value) ∙ c.in-Some.ensures in
    let on = stacked-is marks stack c.in-Some.position c.args.slot c.requires.stack.stacked at in
    record {
      stacked = stacked-fewer marks c.take_off.new.marks stack c.swap_remove.new.self.items c.args.slot c.requires.stack.stacked on
          (λ n. ap (λ xs. count_by (λ s. nat_eq s n) xs + one_if (nat_eq c.args.slot n)) c.swap_remove.ensures.items ∙ swapped-times stack c.in-Some.position c.args.slot c.swap_remove.result at n)
          c.take_off.ensures.stacked;
      owed = c.take_off.ensures.owed;
      few = subst (λ k. k ≤ 2 ^ 32) (sym c.take_off.ensures.same.covered) c.requires.stack.few;
    }
