use Rattle.std.proofs.Common.{◌≡◌, refl, rules, subst, ◌∙◌}
use Rattle.ide_slots.specs.Slot.{SlotHead}
use Rattle.ide_slots.proofs.Pages.{filled_up, told_bytes}
use Rattle.ide_slots.proofs.head.spell_head.Goals as goal

pub returns-clause-spelled : goal.returns-clause-spelled
returns-clause-spelled c =
    let items = c.extend_from_slice-5.new.self.items in
    let are : items ≡ told_bytes c.args.head.now =
    subst (λ (told : SlotHead). items ≡ told_bytes told) c.head.view_is
    (rw (
      c.in_ok-extend_from_slice-5.ensures.items,
      c.in_ok-extend_from_slice-4.ensures.items,
      c.in_ok-extend_from_slice-3.ensures.items,
      c.in_ok-extend_from_slice-2.ensures.items,
      c.in_ok-push.ensures.items,
      c.in_ok-extend_from_slice.ensures.items,
      c.in_ok-page.ensures.items,
      c.to_le_bytes-4.ensures,
      c.to_le_bytes-3.ensures,
      c.to_le_bytes-2.ensures,
      c.to_le_bytes.ensures,
      c.from-2.ensures,
      c.from.ensures,
      c.letters.ensures,
    ) refl) in
    c.in_ok-resize.ensures.items ∙ filled_up c.args.head.now items _ are (search rules)
