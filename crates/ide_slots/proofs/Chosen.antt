-- An opening takes one side, and it is that of the slot that is shown.
use Rattle.std.specs.Prelude.{◌≡◌, ℕ, List, refl}
use Rattle.std.proofs.Common.{arith, subst, inl, inr}
use Rattle.ide_slots.specs.Sides.{First, IsBehind, IsChosen, Second, Shows, Side, Sides, on, off}
use Rattle.ide_slots.specs.Slot.{HoldsSlot, Slot}
use Rattle.ide_slots.specs.SlotLaws.{OneSideIsChosen}
use Rattle.ide_slots.proofs.Gates.{not_both, one_generation, open_held}
use Rattle.ide_slots.proofs.OneSlot.{holds_one_slot}

not_first_and_second : (left : Sides (List ℕ)) → IsChosen First left → IsChosen Second left → ⊥
not_first_and_second left first (h, opened, second) =
    elim first [
      | inl closed ↦ not_both h left.b closed opened
      | inr (g, h', opened_a, opened_b, least) ↦ elim second [
        | inl closed ↦ not_both g left.a closed opened_a
        | inr (g', opened_a', less) ↦
            omega (arith, one_generation g g' left.a opened_a opened_a', one_generation h h' left.b opened opened_b, least, less)
      ]
    ]

pub one_side : (side other : Side) (left : Sides (List ℕ)) → IsChosen side left → IsChosen other left → side ≡ other
one_side First First left chosen chosen' = refl
one_side First Second left chosen chosen' = absurd (not_first_and_second left chosen chosen')
one_side Second First left chosen chosen' = absurd (not_first_and_second left chosen' chosen)
one_side Second Second left chosen chosen' = refl

pub shown_on : (side : Side) (slot : Slot) (left : Sides (List ℕ)) → HoldsSlot slot (on side left) → IsBehind side slot (off side left) → IsChosen side left
shown_on First slot left holds behind =
    elim behind [
      | inl none ↦ inl none.1
      | inr (some, other) ↦ elim other [
        | inl closed ↦ inl closed
        | inr lesser ↦ inr (slot.generation, lesser.lesser, (open_held slot left.a some holds).0, lesser.opened, lesser.less)
      ]
    ]
shown_on Second slot left holds behind =
    elim behind [
      | inl (same, closed) ↦ absurd (let no : Second ≡ First = same in cc)
      | inr (some, other) ↦ (
        slot.generation,
        (open_held slot left.b some holds).0,
        elim other [
          | inl closed ↦ inl closed
          | inr lesser ↦ inr (lesser.lesser, lesser.opened, lesser.less)
        ],
      )
    ]

pub shown : (slot : Slot) (left : Sides (List ℕ)) (shows : Shows slot left) → IsChosen shows.side left
shown slot left shows = shown_on shows.side slot left shows.holds shows.behind

pub one_shown : (slot other : Slot) (left : Sides (List ℕ)) → Shows slot left → Shows other left → slot ≡ other
one_shown slot other left shows shows' =
    let sides = one_side shows.side shows'.side left (shown slot left shows) (shown other left shows') in
    holds_one_slot slot other (on shows'.side left) (subst (λ (s : Side). HoldsSlot slot (on s left)) sides shows.holds) shows'.holds

pub one_side_is_chosen : OneSideIsChosen
one_side_is_chosen = record { one_side = one_side; shown = shown; one_slot = one_shown }
