-- One slot at most is current.
use Rattle.std.specs.Prelude.{◌≡◌, ◌<◌, ℕ, List, ◌∷◌, ◌++◌, length}
use Rattle.std.proofs.Common.{arith, sym, ap, subst, ◌∙◌, inl, inr}
use Rattle.std.proofs.lemmas.List.{append_assoc, length-append}
use Rattle.ide_journal.proofs.OneList.{same_front}
use Rattle.ide_slots.specs.Current.{HasNoCurrent, IsCurrent, IsNoSlot, both_closed, ends_early, no_slot, opened}
use Rattle.ide_slots.specs.Reading.{Tells, TellsNothing}
use Rattle.ide_slots.specs.Sides.{First, Second, Shows, Side, Sides, on}
use Rattle.ide_slots.specs.Slot.{HoldsSlot, IsClosedSlot, IsOpenSlot, Slot, SlotHead, slot_head, slot_header}
use Rattle.ide_slots.specs.SlotLaws.{OneSlotIsCurrent}
use Rattle.ide_slots.proofs.Chosen.{one_side, shown}
use Rattle.ide_slots.proofs.Gates.{gate_closed, gate_open, not_both}
use Rattle.ide_slots.proofs.Heads.{headers_tell_apart, length-slot_header}

-- bytes begin with one valid first page at most
pub one_told : (told other : SlotHead) (bytes : List ℕ) → Tells told bytes → Tells other bytes → told ≡ other
one_told told other bytes tells tells' =
    let pages = same_front (slot_header told) (slot_header other) tells.rest tells'.rest
    (length-slot_header told ∙ sym (length-slot_header other)) (sym tells.split ∙ tells'.split) in
    headers_tell_apart told other tells.valid tells'.valid pages.0

one : (side other : Side) (told other_told : SlotHead) (left : Sides (List ℕ)) → IsCurrent side told left → IsCurrent other other_told left
    → (side ≡ other) × (told ≡ other_told)
one side other told other_told left current current' =
    let same = one_side side other left current.chosen current'.chosen in (
      same,
      one_told told other_told (on other left) (subst (λ (s : Side). Tells told (on s left)) same current.tells) current'.tells,
    )

-- an open slot tells something
open_tells : (generation : ℕ) (bytes : List ℕ) → IsOpenSlot generation bytes → TellsNothing bytes → ⊥
open_tells generation bytes slot nothing =
    nothing slot.told (record {
      valid = slot.valid;
      rest = slot.opened.gate ∷ slot.opened.rest;
      split = slot.opened.split ∙ append_assoc (slot_header slot.told) _ slot.opened.rest;
    })

-- a file that is closed, or open with a valid first page, is a slot; and so is one with a valid first page and a gate
is_closed : (bytes : List ℕ) → IsClosedSlot bytes → IsNoSlot bytes → ⊥
is_closed bytes slot (ends_early short) = let long = (gate_closed bytes slot).0 in omega (arith, long, short)
is_closed bytes slot (opened gate nothing) = gate (gate_closed bytes slot).1

is_open : (generation : ℕ) (bytes : List ℕ) → IsOpenSlot generation bytes → IsNoSlot bytes → ⊥
is_open generation bytes slot (ends_early short) = let long = (gate_open generation bytes slot).0 in omega (arith, long, short)
is_open generation bytes slot (opened gate nothing) = open_tells generation bytes slot nothing

is_told : (told : SlotHead) (bytes : List ℕ) → Tells told bytes → 4096 < length bytes → IsNoSlot bytes → ⊥
is_told told bytes tells long (ends_early short) = omega (arith, long, short)
is_told told bytes tells long (opened gate nothing) = nothing told tells

-- beside a current slot the other file is a slot too
each_is : (side other : Side) (told : SlotHead) (left : Sides (List ℕ)) → IsCurrent side told left → IsNoSlot (on other left) → ⊥
each_is First First told left current none = is_told told left.a current.tells current.gate none
each_is Second Second told left current none = is_told told left.b current.tells current.gate none
each_is First Second told left current none =
    elim current.chosen [
      | inl closed ↦ is_closed left.b closed none
      | inr (g, h, a, b, least) ↦ is_open h left.b b none
    ]
each_is Second First told left current none =
    elim current.chosen.2 [
      | inl closed ↦ is_closed left.a closed none
      | inr (g, a, less) ↦ is_open g left.a a none
    ]

none : (side : Side) (told : SlotHead) (left : Sides (List ℕ)) → HasNoCurrent left → IsCurrent side told left → ⊥
none side told left (no_slot other cause) current = each_is side other told left current cause
none First told left (both_closed a b nothing) current = nothing told current.tells
none Second told left (both_closed a b nothing) current = not_both current.chosen.0 left.b b current.chosen.1

held_tells : (slot : Slot) (bytes : List ℕ) → HoldsSlot slot bytes → Tells (slot_head slot) bytes × (4096 < length bytes)
held_tells slot bytes holds =
    let page = slot_header (slot_head slot) in
    let split = holds.closed.split ∙ ap (λ (xs : List ℕ). xs ++ 0 ∷ holds.closed.rest) holds.whole.split
    ∙ append_assoc page holds.whole.pages (0 ∷ holds.closed.rest) in (
      record { valid = holds.whole.proper.valid; rest = holds.whole.pages ++ 0 ∷ holds.closed.rest; split = split },
      omega (
        arith,
        ap length split,
        length-append page (holds.whole.pages ++ 0 ∷ holds.closed.rest),
        length-append holds.whole.pages (0 ∷ holds.closed.rest),
        length-slot_header (slot_head slot),
      ),
    )

shown_is : (slot : Slot) (left : Sides (List ℕ)) (shows : Shows slot left) → IsCurrent shows.side (slot_head slot) left
shown_is slot left shows =
    let tells = held_tells slot (on shows.side left) shows.holds in
    record { chosen = shown slot left shows; tells = tells.0; gate = tells.1 }

pub one_slot_is_current : OneSlotIsCurrent
one_slot_is_current = record { one = one; none = none; shown = shown_is }
