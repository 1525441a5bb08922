use Rattle.std.proofs.Common.{◌≡◌, ◌+◌, ◌-◌, ◌<◌, ◌≤◌, ◌^◌, ◌++◌, ap, arith, get_or, length, subst, sym, ◌∙◌, Some, vec_len}
use Rattle.std.specs.Prelude.{slice_get}
use Rattle.std.specs.Option.{option_to_list}
use Rattle.std.proofs.lemmas.Option.{get_or_from_slice_get, slice_get_within}
use Rattle.ide_image.proofs.Stack.{keeps-both, popped-times, stacked-fewer, stacked-is}
use Rattle.ide_image.proofs.queue.clear_top.Goals as goal

pub take_off-requires-clause-stacked : goal.take_off-requires-clause-stacked
take_off-requires-clause-stacked c =
    let stack = c.loop-slot.stack.items in
    let at = ap (λ xs. slice_get xs (length xs - 1)) (sym c.deref.ensures.value) ∙ c.in-Some.ensures.at in
    stacked-is c.loop-slot.marks stack (length stack - 1) c.in-Some.slot c.loop-slot.invariant.stack.stacked at

pub loop-slot-preserved : goal.loop-slot-preserved
loop-slot-preserved c =
    let marks = c.loop-slot.marks in
    let stack = c.loop-slot.stack.items in
    let left = c.pop.new.self.items in
    let slot = c.in-Some.slot in
    let at = ap (λ xs. slice_get xs (length xs - 1)) (sym c.deref.ensures.value) ∙ c.in-Some.ensures.at in
    let on = stacked-is marks stack (length stack - 1) slot c.loop-slot.invariant.stack.stacked at in
    let within = slice_get_within stack (length stack - 1) slot at in
    let long : vec_len c.loop-slot.stack ≡ length stack = omega (arith, c.loop-slot.stack.ok) in
    let some : 0 < vec_len c.loop-slot.stack = omega (arith, within, long) in
    let read = ap (λ n. get_or stack (n - 1) slot) long ∙ get_or_from_slice_get stack (length stack - 1) slot slot at in
    let top : c.pop.result ≡ Some slot = c.pop.ensures.value slot some ∙ ap Some read in
    let parts = c.pop.ensures.items ∙ ap (λ o. left ++ option_to_list o) top in
    let shorter : vec_len c.pop.new.self + 1 ≡ vec_len c.loop-slot.stack =
    ap (λ o. vec_len c.pop.new.self + length (option_to_list o)) (sym top) ∙ c.pop.ensures.len in
    record {
      stack = record {
        stacked = stacked-fewer marks c.take_off.new.marks stack left slot c.loop-slot.invariant.stack.stacked on (popped-times stack left slot parts) c.take_off.ensures.stacked;
        owed = c.take_off.ensures.owed;
        few = subst (λ k. k ≤ 2 ^ 32) (sym c.take_off.ensures.same.covered) c.loop-slot.invariant.stack.few;
      };
      same = keeps-both c.args.marks.now marks c.take_off.new.marks c.loop-slot.invariant.same c.take_off.ensures.same;
      room = omega (arith, shorter, c.take_off.ensures.room, c.loop-slot.invariant.room);
      capacity = c.pop.ensures.capacity ∙ c.loop-slot.invariant.capacity;
    }
