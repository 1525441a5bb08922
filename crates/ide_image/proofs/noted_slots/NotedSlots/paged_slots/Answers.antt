use Rattle.std.proofs.Common.{◌≡◌, ◌∙◌, false, length, subst, sym, arith}
use Rattle.std.specs.Prelude.{IfSome}
use Rattle.ide_wire.specs.declared.key.Key.TheVariants.{Jump}
use Rattle.ide_image.specs.ChangeLog.{is_noted_in}
use Rattle.ide_image.specs.Grid.{AreNumbersOfRows, AreRows}
use Rattle.ide_image.specs.Ordered.{AreAllLeft}
use Rattle.ide_image.specs.Ranks.{left_by_slots}
use Rattle.ide_image.proofs.Slotted.{all-left, all-sorted, count-left, told-noted}
use Rattle.ide_image.proofs.noted_slots.NotedSlots.paged_slots.Goals as goal

pub slots-requires : goal.slots-requires
slots-requires g c =
    subst (AreRows c.in-Some.grid) (sym c.deref.ensures.value)
    (subst (λ o. IfSome o (λ rows. AreRows c.in-Some.grid rows.items)) c.in-Some-2.is c.in_ok-rows.ensures.rows)

pub returns-clause-same : goal.returns-clause-same
returns-clause-same g c =
    let same = g.F.PartialEq.eq in
    let left = c.args.self.now in
    let indexed = left.indexed.now in
    let marks = left.queue.now in
    let noted = is_noted_in left.marks in
    let grid = c.in-Some.grid in
    let all = subst (λ o. IfSome o (λ _. AreAllLeft same left)) c.in-Some.is c.in_ok-grid.ensures.left in
    let are = subst (λ o. IfSome o (AreNumbersOfRows indexed grid)) c.in-Some-2.is c.in_ok-rows.ensures.numbers in
    let items = left_by_slots same indexed marks left.notes.now.items in
    let told = told-noted same indexed marks left.notes.now.items all left.slots.now noted left.stand left.marked in
    let count : length c.in_ok-slots.slots.items ≡ length left.notes.now.items = omega (arith, c.if-len-count.false) in
    all-left indexed marks items noted told grid c.in-Some-2.rows.items are (Jump 0 0 0, g.F.EdgeFn.edge.all_top, false) c.deref.result.now
    c.in_ok-slots.slots.items c.deref.ensures.value c.in_ok-slots.ensures (count ∙ sym (count-left same indexed marks left.notes.now.items all))

pub returns-clause-sorted : goal.returns-clause-sorted
returns-clause-sorted g c =
    let same = g.F.PartialEq.eq in
    let left = c.args.self.now in
    let indexed = left.indexed.now in
    let marks = left.queue.now in
    let noted = is_noted_in left.marks in
    let grid = c.in-Some.grid in
    let all = subst (λ o. IfSome o (λ _. AreAllLeft same left)) c.in-Some.is c.in_ok-grid.ensures.left in
    let are = subst (λ o. IfSome o (AreNumbersOfRows indexed grid)) c.in-Some-2.is c.in_ok-rows.ensures.numbers in
    let items = left_by_slots same indexed marks left.notes.now.items in
    let told = told-noted same indexed marks left.notes.now.items all left.slots.now noted left.stand left.marked in
    all-sorted indexed marks items noted told grid c.in-Some-2.rows.items are (Jump 0 0 0, g.F.EdgeFn.edge.all_top, false) c.deref.result.now
    c.in_ok-slots.slots.items c.deref.ensures.value c.in_ok-slots.ensures
