use Rattle.std.proofs.Common.{◌≡◌, arith, true, drop, length, length-drop}
use Rattle.std.specs.Option.{is_some}
use Rattle.std.proofs.lemmas.List.Elements.{All-drop}
use Rattle.ide_image.specs.Ranks.{item_in, items_in}
use Rattle.ide_image.proofs.Slotted.{count-items}
use Rattle.ide_image.proofs.changed_items.ChangedItems.len.Goals as goal

pub returns : goal.returns
returns g c =
    let inside = c.self.inside in
    let item = item_in inside.indexed.now inside.queue.now in
    let rest = drop inside.next inside.slots.items in
    let many : length (items_in inside.indexed.now inside.queue.now rest) ≡ length rest =
    count-items item rest (All-drop (λ slot. is_some (item slot) ≡ true) inside.next inside.slots.items c.self.invariant.0) in
    let long = length-drop inside.next inside.slots.items in
    rw (← c.self.view_is) (omega (arith, many, long, c.len.ensures))
