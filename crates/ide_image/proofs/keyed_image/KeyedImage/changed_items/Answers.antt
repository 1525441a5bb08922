use Rattle.std.proofs.Common.{◌≡◌, Bool, List, Option, Some, [], true, sym, ap, subst, ◌∙◌}
use Rattle.std.specs.Prelude.{nat_eq, unwrap_or}
use Rattle.std.specs.List.{filter_map, list_any}
use Rattle.std.specs.List.Sorted.{IsPermutation, IsSortedByKey}
use Rattle.ide_wire.specs.KeyOrder.{key_cmp}
use Rattle.ide_wire.specs.declared.key.Key.{Key}
use Rattle.ide_image.specs.declared.claim.Claim.{Claim}
use Rattle.ide_image.specs.declared.entry.Entry.{Entry}
use Rattle.ide_image.specs.ChangeLog.{ChangeLog}
use Rattle.ide_image.specs.Indexed.{Indexed, table_of}
use Rattle.ide_image.specs.KeyedImage.{AreParts, image_by, pending_by_slot}
use Rattle.ide_image.specs.Left.{left_by_slot, left_item, left_items, left_of}
use Rattle.ide_image.specs.Queue.{SlotMarks}
use Rattle.ide_image.specs.Ranks.{items_in, left_by_slots}
use Rattle.ide_image.specs.Tables.{found}
use Rattle.ide_image.proofs.Agree.{is-pending}
use Rattle.ide_image.proofs.Shown.{found-shown}
use Rattle.ide_image.proofs.Slotted.{noted-among}
use Rattle.ide_image.proofs.keyed_image.KeyedImage.changed_items.Goals as goal

-- what is left by the slots of notes is what is left of the image's
left-same : {F T : Type 0} (same : F → F → Bool) (indexed : Indexed F) (marks : SlotMarks) (claims : List (Option (Claim T))) (changes : ChangeLog F)
    → AreParts indexed marks claims changes → (notes : List (Key × Entry F)) → Some notes ≡ changes.list
    → left_by_slots same indexed marks notes ≡ left_items same (image_by indexed marks claims changes)
left-same {F} same indexed marks claims changes whole notes listed =
    let each : (note : Key × Entry F) → left_by_slot same indexed marks note.0 note.1 ≡ left_item same (image_by indexed marks claims changes) note =
    λ note.
    ap (λ o. left_of same note.0 o (pending_by_slot indexed marks note.0) note.1) (sym (found-shown indexed.cells note.0 whole.distinct))
    ∙ ap (λ b. left_of same note.0 (found (table_of indexed.cells) note.0) b note.1) (sym (is-pending indexed marks claims changes whole note.0)) in
    (λ i. filter_map (λ note. each note i) notes)
    ∙ ap (λ list. filter_map (left_item same (image_by indexed marks claims changes)) (unwrap_or list [])) listed

pub invariant_of-noted-clause-marked : goal.invariant_of-noted-clause-marked
invariant_of-noted-clause-marked g c = λ slot is.
    let inside = c.self.inside in
    subst (λ slots. list_any (nat_eq slot) slots ≡ true) (sym c.slots.ensures)
    (noted-among inside.indexed inside.queue inside.claims.items inside.changes c.self.invariant slot (sym (c.stamp_marks.ensures slot) ∙ is))

pub returns-clause-same : goal.returns-clause-same
returns-clause-same g c =
    let inside = c.self.inside in
    let left = left-same g.F.PartialEq.eq inside.indexed inside.queue inside.claims.items inside.changes c.self.invariant c.in-Some.notes.now.items c.in-Some.ensures in
    let items = items_in inside.indexed inside.queue c.in_ok-slots.slots.items in
    subst (IsPermutation (left_items g.F.PartialEq.eq c.args.self.now)) (sym c.new-2.ensures)
    (subst (λ xs. IsPermutation xs items) (left ∙ ap (left_items g.F.PartialEq.eq) c.self.view_is) c.in_ok-slots.ensures.same.same)

pub returns-clause-sorted : goal.returns-clause-sorted
returns-clause-sorted g c =
    subst (IsSortedByKey (λ (item : Key × _ × _). item.0) key_cmp) (sym c.new-2.ensures) c.in_ok-slots.ensures.sorted
