-- The first 4,097 bytes of two files tell which slot is current.
use Rattle.std.specs.Prelude.{◌≡◌, ℕ, ◌+◌, ◌≤◌, List, ◌++◌, length, take, drop, slice_index}
use Rattle.std.proofs.Common.{arith, sym, ap, ◌∙◌, inl, inr}
use Rattle.std.proofs.Math.Seq.{take-append-add}
use Rattle.std.proofs.lemmas.Bool.{cases_lt}
use Rattle.std.proofs.lemmas.List.{append_assoc, get_or-take, length-take, take-append-drop}
use Rattle.ide_slots.specs.Current.{HasNoCurrent, IsCurrent, IsNoSlot, both_closed, ends_early, no_slot, opened}
use Rattle.ide_slots.specs.Reading.{Tells, TellsNothing}
use Rattle.ide_slots.specs.ReadingLaws.{FrontsTellCurrent, fronts_of}
use Rattle.ide_slots.specs.Sides.{First, IsChosen, Second, Side, Sides}
use Rattle.ide_slots.specs.Slot.{IsClosedSlot, IsOpenSlot, SlotHead, slot_header}
use Rattle.ide_slots.proofs.Gates.{closed_by_gate, gate_closed}
use Rattle.ide_slots.proofs.Heads.{length-slot_header}

shorter : (bytes : List ℕ) → length (take 4097 bytes) ≤ length bytes
shorter bytes = simp length-take (omega arith)

same_gate : (bytes : List ℕ) → slice_index (take 4097 bytes) 4096 ≡ slice_index bytes 4096
same_gate bytes = get_or-take 4097 bytes 4096 0 (omega arith)

is_closed : (bytes : List ℕ) → IsClosedSlot (take 4097 bytes) → IsClosedSlot bytes
is_closed bytes closed =
    let gate = gate_closed (take 4097 bytes) closed in
    closed_by_gate bytes (let inside = gate.0 in omega (arith, inside, shorter bytes)) (sym (same_gate bytes) ∙ gate.1)

is_open : (generation : ℕ) (bytes : List ℕ) → IsOpenSlot generation (take 4097 bytes) → IsOpenSlot generation bytes
is_open generation bytes slot = record {
  told = slot.told;
  valid = slot.valid;
  is = slot.is;
  opened = record {
    gate = slot.opened.gate;
    rest = slot.opened.rest ++ drop 4097 bytes;
    opened = slot.opened.opened;
    split = sym (take-append-drop 4097 bytes) ∙ ap (λ (xs : List ℕ). xs ++ drop 4097 bytes) slot.opened.split
        ∙ append_assoc _ slot.opened.rest (drop 4097 bytes);
  };
}

tells_all : (told : SlotHead) (bytes : List ℕ) → Tells told (take 4097 bytes) → Tells told bytes
tells_all told bytes tells = record {
  valid = tells.valid;
  rest = tells.rest ++ drop 4097 bytes;
  split = sym (take-append-drop 4097 bytes) ∙ ap (λ (xs : List ℕ). xs ++ drop 4097 bytes) tells.split
      ∙ append_assoc (slot_header told) tells.rest (drop 4097 bytes);
}

tells_front : (told : SlotHead) (bytes : List ℕ) → Tells told bytes → Tells told (take 4097 bytes)
tells_front told bytes tells =
    let page = slot_header told in
    let size : 4097 ≡ length page + 1 = omega (arith, length-slot_header told) in
    record {
      valid = tells.valid;
      rest = take 1 tells.rest;
      split = ap (λ (xs : List ℕ). take 4097 xs) tells.split ∙ ap (λ (n : ℕ). take n (page ++ tells.rest)) size
          ∙ take-append-add page tells.rest 1;
    }

tells_nothing : (bytes : List ℕ) → TellsNothing (take 4097 bytes) → TellsNothing bytes
tells_nothing bytes nothing told tells = nothing told (tells_front told bytes tells)

is_none : (bytes : List ℕ) → IsNoSlot (take 4097 bytes) → IsNoSlot bytes
is_none bytes (ends_early short) =
    let size : length (take 4097 bytes) ≤ 4096 = short in
    ends_early (elim (cases_lt 4096 (length bytes)) [
      | inl long ↦ absurd (let full : length (take 4097 bytes) ≡ 4097 = simp length-take (omega (arith, long)) in omega (arith, full, size))
      | inr least ↦ least
    ])
is_none bytes (opened gate nothing) = opened (λ closed. gate (same_gate bytes ∙ closed)) (tells_nothing bytes nothing)

is_chosen : (side : Side) (left : Sides (List ℕ)) → IsChosen side (fronts_of left) → IsChosen side left
is_chosen First left chosen =
    elim chosen [
      | inl closed ↦ inl (is_closed left.b closed)
      | inr (g, h, a, b, least) ↦ inr (g, h, is_open g left.a a, is_open h left.b b, least)
    ]
is_chosen Second left (h, b, other) = (
  h,
  is_open h left.b b,
  elim other [
    | inl closed ↦ inl (is_closed left.a closed)
    | inr (g, a, less) ↦ inr (g, is_open g left.a a, less)
  ],
)

current : (side : Side) (told : SlotHead) (left : Sides (List ℕ)) → IsCurrent side told (fronts_of left) → IsCurrent side told left
current First told left is = record {
  chosen = is_chosen First left is.chosen;
  tells = tells_all told left.a is.tells;
  gate = omega (arith, is.gate, shorter left.a);
}
current Second told left is = record {
  chosen = is_chosen Second left is.chosen;
  tells = tells_all told left.b is.tells;
  gate = omega (arith, is.gate, shorter left.b);
}

none : (left : Sides (List ℕ)) → HasNoCurrent (fronts_of left) → HasNoCurrent left
none left (no_slot First cause) = no_slot First (is_none left.a cause)
none left (no_slot Second cause) = no_slot Second (is_none left.b cause)
none left (both_closed a b nothing) = both_closed (is_closed left.a a) (is_closed left.b b) (tells_nothing left.a nothing)

pub fronts_tell_current : FrontsTellCurrent
fronts_tell_current = record { current = current; none = none }
