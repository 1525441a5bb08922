use Rattle.std.proofs.Common.{◌≡◌, ap, sym, ◌∙◌, arith}
use Rattle.std.proofs.lemmas.Option.{get_or_from_slice_get, same_Some, slice_get_within}
use Rattle.ide_wire.specs.declared.key.Key.{Key}
use Rattle.ide_image.specs.declared.entry.Entry.{Entry}
use Rattle.ide_image.specs.Indexed.{place_of_key}
use Rattle.ide_image.specs.Left.{is_left_by_slot}
use Rattle.ide_image.proofs.Left.{slot-beside}
use Rattle.ide_image.proofs.noted_slots.NotedSlots.is_left_at.Goals as goal

pub is_left_at-requires : goal.is_left_at-requires
is_left_at-requires g c =
    let place = place_of_key c.args.self.now.indexed.now in
    let notes = c.args.self.now.notes.now.items in
    let note = c.in-Some.note in
    let slot = c.in-Some-get.ensures.lookup in
    let within = slice_get_within notes c.args.index note (sym c.in-Some.ensures) in
    let beside = slot-beside place notes c.args.self.now.slots.now c.args.self.now.stand c.args.index note c.in-Some-get.slot.now within in
    let here = ap (λ (note : Key × Entry _). place note.0) (sym (get_or_from_slice_get notes c.args.index note note (sym c.in-Some.ensures))) ∙ beside in
    record { slot = omega (arith, here, slot.1) }

pub returns : goal.returns
returns g c = λ note is.
    let same : c.in-Some.note ≡ note = same_Some c.in-Some.note note (c.in-Some.ensures ∙ is) in
    c.is_left_at.ensures ∙ ap (λ (n : Key × Entry _). is_left_by_slot g.F.PartialEq.eq c.args.self.now.indexed.now c.args.self.now.queue.now n.0 n.1) same
