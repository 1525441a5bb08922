use Rattle.std.proofs.Common.{false, map, subst}
use Rattle.std.specs.Prelude.{IfSome}
use Rattle.std.specs.List.{filter_map}
use Rattle.std.specs.List.Sorted.{IsSortedByKey}
use Rattle.ide_wire.specs.KeyOrder.{key_cmp}
use Rattle.ide_wire.specs.declared.key.Key.{Key}
use Rattle.ide_wire.specs.declared.key.Key.TheVariants.{Jump}
use Rattle.ide_image.specs.Ranks.{AreNumbers, HaveTheItems, item_told, items_in, left_by_slots, note_slot}
use Rattle.ide_image.proofs.Ranks.{keyed-same, keyed-up, slots-same, slots-up, told-slots}
use Rattle.ide_image.proofs.noted_slots.NotedSlots.sorted_slots.Goals as goal

pub returns-in-Some-clause-same : goal.returns-in-Some-clause-same
returns-in-Some-clause-same g c =
    let indexed = c.args.self.now.indexed.now in
    let marks = c.args.self.now.queue.now in
    let slots = c.args.self.now.slots.now in
    let left = left_by_slots g.F.PartialEq.eq indexed marks c.args.self.now.notes.now.items in
    let are : AreNumbers (item_told indexed marks slots) left c.in-Some.numbers.items =
    subst (λ o. IfSome o (λ numbers. AreNumbers (item_told indexed marks slots) left numbers.items)) c.in-Some.is c.in_ok-numbers.ensures in
    let sorted = c.sort_unstable.new.self.items in
    let same = slots-same indexed marks (Jump 0 0 0, g.F.EdgeFn.edge.all_top, false) slots left c.in-Some.numbers.items sorted are c.sort_unstable.ensures.permutation in
    told-slots (HaveTheItems indexed marks left) (filter_map (note_slot slots)) sorted c.deref.result.now c.told_slots.result c.deref.ensures.value c.told_slots.ensures same

pub returns-in-Some-clause-sorted : goal.returns-in-Some-clause-sorted
returns-in-Some-clause-sorted g c =
    let indexed = c.args.self.now.indexed.now in
    let marks = c.args.self.now.queue.now in
    let slots = c.args.self.now.slots.now in
    let left = left_by_slots g.F.PartialEq.eq indexed marks c.args.self.now.notes.now.items in
    let are : AreNumbers (item_told indexed marks slots) left c.in-Some.numbers.items =
    subst (λ o. IfSome o (λ numbers. AreNumbers (item_told indexed marks slots) left numbers.items)) c.in-Some.is c.in_ok-numbers.ensures in
    let sorted = c.sort_unstable.new.self.items in
    let up =
    slots-up indexed marks (Jump 0 0 0, g.F.EdgeFn.edge.all_top, false) slots left c.in-Some.numbers.items sorted are c.sort_unstable.ensures.permutation
    c.sort_unstable.ensures.sorted in
    told-slots (λ xs. IsSortedByKey (λ (item : Key × _ × _). item.0) key_cmp (items_in indexed marks xs)) (filter_map (note_slot slots)) sorted
    c.deref.result.now c.told_slots.result c.deref.ensures.value c.told_slots.ensures up

pub returns-in_ok-keyed-clause-same : goal.returns-in_ok-keyed-clause-same
returns-in_ok-keyed-clause-same g c =
    let indexed = c.args.self.now.indexed.now in
    let marks = c.args.self.now.queue.now in
    let left = left_by_slots g.F.PartialEq.eq indexed marks c.args.self.now.notes.now.items in
    let sorted = c.sort_by_key.new.keyed.items in
    let same = keyed-same indexed marks (Jump 0 0 0, g.F.EdgeFn.edge.all_top, false) left c.in_ok-keyed.keyed.items sorted c.in_ok-keyed.ensures c.sort_by_key.ensures.same in
    told-slots (HaveTheItems indexed marks left) (map (λ k. k.1)) sorted c.deref-in_default.result.now c.slots_of.result c.deref-in_default.ensures.value c.slots_of.ensures same

pub returns-in_ok-keyed-clause-sorted : goal.returns-in_ok-keyed-clause-sorted
returns-in_ok-keyed-clause-sorted g c =
    let indexed = c.args.self.now.indexed.now in
    let marks = c.args.self.now.queue.now in
    let left = left_by_slots g.F.PartialEq.eq indexed marks c.args.self.now.notes.now.items in
    let sorted = c.sort_by_key.new.keyed.items in
    let up =
    keyed-up indexed marks (Jump 0 0 0, g.F.EdgeFn.edge.all_top, false) left c.in_ok-keyed.keyed.items sorted c.in_ok-keyed.ensures c.sort_by_key.ensures.same
    c.sort_by_key.ensures.sorted in
    told-slots (λ xs. IsSortedByKey (λ (item : Key × _ × _). item.0) key_cmp (items_in indexed marks xs)) (map (λ k. k.1)) sorted
    c.deref-in_default.result.now c.slots_of.result c.deref-in_default.ensures.value c.slots_of.ensures up
