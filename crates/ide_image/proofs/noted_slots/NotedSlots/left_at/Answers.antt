use Rattle.std.proofs.Common.{◌≡◌, ◌<◌, sym, ap, subst, ◌∙◌, arith, Some, length}
use Rattle.std.specs.Prelude.{IfSome, slice_get}
use Rattle.std.proofs.lemmas.Bool.Decides.{nat_tests}
use Rattle.std.proofs.lemmas.Option.{get_or_from_slice_get, same_Some, slice_get_within}
use Rattle.ide_wire.specs.declared.key.Key.{Key}
use Rattle.ide_image.specs.declared.entry.Entry.{Entry}
use Rattle.ide_image.specs.Indexed.{place_of_key}
use Rattle.ide_image.specs.Left.{left_by_slot}
use Rattle.ide_image.specs.Ranks.{item_of}
use Rattle.ide_image.proofs.Left.{slot-beside}
use Rattle.ide_image.proofs.Ranks.{stands}
use Rattle.ide_image.proofs.noted_slots.NotedSlots.left_at.Goals as goal

pub left_at-requires : goal.left_at-requires
left_at-requires g c =
    let place = place_of_key c.args.self.now.indexed.now in
    let notes = c.args.self.now.notes.now.items in
    let note : Key × Entry _ = (c.in_ok-key.key, c.in_ok-key.before) in
    let slot = c.in_ok-slot.ensures.lookup in
    let within = slice_get_within notes c.args.index note (sym c.in_ok-key.ensures) in
    let beside = slot-beside place notes c.args.self.now.slots.now c.args.self.now.stand c.args.index note c.in_ok-slot.field-0.now within in
    let here = ap (λ (note : Key × Entry _). place note.0) (sym (get_or_from_slice_get notes c.args.index note note (sym c.in_ok-key.ensures))) ∙ beside in
    record { slot = omega (arith, here, slot.1) }

pub returns-clause-left : goal.returns-clause-left
returns-clause-left g c = λ note is.
    let own : Key × Entry _ = (c.in_ok-key.key, c.in_ok-key.before) in
    let same : own ≡ note = same_Some own note (c.in_ok-key.ensures ∙ is) in
    c.left_at.ensures.left ∙ ap (λ (n : Key × Entry _). left_by_slot g.F.PartialEq.eq c.args.self.now.indexed.now c.args.self.now.queue.now n.0 n.1) same

pub returns-clause-item : goal.returns-clause-item
returns-clause-item g c =
    let slot = c.in_ok-slot.field-0.now in
    let told = c.in_ok-slot.ensures.lookup in
    let within : c.args.index < length c.args.self.now.slots.now = grind (arith, nat_tests, told.0) in
    let there : slice_get c.args.self.now.slots.now c.args.index ≡ Some slot =
    stands c.args.self.now.slots.now c.args.index slot within ∙ ap (λ n. Some n) (sym told.1) in
    subst (λ o. IfSome c.left_at.result (λ item. item_of c.args.self.now.indexed.now c.args.self.now.queue.now o ≡ Some item)) (sym there) c.left_at.ensures.item
