-- What the first gate tells.
use Rattle.std.specs.Prelude.{◌≡◌, ◌≢◌, ℕ, ◌<◌, List, [], ◌∷◌, ◌++◌, length, take, drop, slice_index, refl}
use Rattle.std.proofs.Common.{arith, sym, ap, ◌∙◌}
use Rattle.std.proofs.lemmas.List.{append_assoc, drop_more, get_or_at, length-append, length-take-le, take-append-drop}
use Rattle.ide_journal.specs.Format.{after_gate}
use Rattle.ide_journal.proofs.OneList.{same_front}
use Rattle.ide_slots.specs.Slot.{HavePages, HoldsSlot, IsClosedSlot, IsFront, IsOpenSlot, NumberedEntry, Slot, SlotHead, records_of, slot_head, slot_header}
use Rattle.ide_slots.specs.SlotLaws.{GatesTell}
use Rattle.ide_slots.proofs.Heads.{headers_tell_apart, length-slot_header}

pub closed_by_gate : (bytes : List ℕ) → 4096 < length bytes → slice_index bytes 4096 ≡ 0 → IsClosedSlot bytes
closed_by_gate bytes inside gate = record {
  page = take 4096 bytes;
  long = length-take-le 4096 bytes (omega (arith, inside));
  closed = record {
    rest = drop 4097 bytes;
    split = sym (take-append-drop 4096 bytes)
        ∙ ap (λ (xs : List ℕ). take 4096 bytes ++ xs) (drop_more bytes 4096 0 inside ∙ ap (λ (g : ℕ). g ∷ drop 4097 bytes) gate);
  };
}

pub gate_closed : (bytes : List ℕ) → IsClosedSlot bytes → (4096 < length bytes) × (slice_index bytes 4096 ≡ 0)
gate_closed bytes slot = (
  omega (arith, slot.long, ap length slot.closed.split, length-append slot.page (0 ∷ slot.closed.rest)),
  ap (λ (xs : List ℕ). slice_index xs 4096) slot.closed.split ∙ get_or_at slot.page 0 slot.closed.rest 0 4096 slot.long,
)

pub gate_open : (generation : ℕ) (bytes : List ℕ) → IsOpenSlot generation bytes → (4096 < length bytes) × (slice_index bytes 4096 ≢ 0)
gate_open generation bytes slot =
    let page = slot_header slot.told in
    let long = length-slot_header slot.told in
    let split : bytes ≡ page ++ slot.opened.gate ∷ slot.opened.rest =
    slot.opened.split ∙ append_assoc page (slot.opened.gate ∷ []) slot.opened.rest in (
      omega (arith, long, ap length split, length-append page (slot.opened.gate ∷ slot.opened.rest)),
      λ closed. slot.opened.opened
          (sym (ap (λ (xs : List ℕ). slice_index xs 4096) split ∙ get_or_at page slot.opened.gate slot.opened.rest 0 4096 long) ∙ closed),
    )

pub one_generation : (generation other : ℕ) (bytes : List ℕ) → IsOpenSlot generation bytes → IsOpenSlot other bytes → generation ≡ other
one_generation generation other bytes slot slot' =
    let page = slot_header slot.told in
    let page' = slot_header slot'.told in
    let same : page ++ (slot.opened.gate ∷ slot.opened.rest) ≡ page' ++ (slot'.opened.gate ∷ slot'.opened.rest) =
    sym (append_assoc page (slot.opened.gate ∷ []) slot.opened.rest) ∙ sym slot.opened.split ∙ slot'.opened.split
    ∙ append_assoc page' (slot'.opened.gate ∷ []) slot'.opened.rest in
    let pages = same_front page page' _ _ (length-slot_header slot.told ∙ sym (length-slot_header slot'.told)) same in
    sym slot.is ∙ ap (λ (told : SlotHead). told.generation) (headers_tell_apart slot.told slot'.told slot.valid slot'.valid pages.0) ∙ slot'.is

pub gates_tell : GatesTell
gates_tell = record { closed = closed_by_gate; is_closed = gate_closed; is_open = gate_open; one = one_generation }

pub not_both : (generation : ℕ) (bytes : List ℕ) → IsClosedSlot bytes → IsOpenSlot generation bytes → ⊥
not_both generation bytes closed opened =
    let one = gate_closed bytes closed in
    let other = gate_open generation bytes opened in
    other.1 one.1

-- the first of some pages begins with an open gate
pub record FirstGate (pages : List ℕ) : Type 0 where
  pub gate : ℕ
  pub behind : List ℕ
  pub opened : gate ≢ 0
  pub some : 0 < length behind
  pub split : pages ≡ gate ∷ behind

some_behind : (r : NumberedEntry) (rest : List ℕ) → 0 < length (after_gate r.0 r.1 ++ rest)
unfolding after_gate
some_behind r rest = omega arith

pub first_gate : (records : List NumberedEntry) (pages : List ℕ) → 0 < length records → HavePages records pages → FirstGate pages
first_gate [] pages some whole = absurd (omega (arith, some))
first_gate (r ∷ records) pages some (gate, rest, opened, split, whole) = record {
  gate = gate;
  behind = after_gate r.0 r.1 ++ rest;
  opened = opened;
  some = some_behind r rest;
  split = split;
}

-- a slot with a record is open, and something stands behind its first gate
pub open_front : (slot : Slot) (front rest bytes : List ℕ) → 0 < length (records_of slot) → IsFront slot front → bytes ≡ front ++ 0 ∷ rest
    → IsOpenSlot slot.generation bytes × (4097 < length bytes)
open_front slot front rest bytes some whole split =
    let first = first_gate (records_of slot) whole.pages some whole.whole in
    let page = slot_header (slot_head slot) in
    let flat : bytes ≡ (page ++ first.gate ∷ []) ++ (first.behind ++ 0 ∷ rest) =
    split ∙ ap (λ (xs : List ℕ). xs ++ 0 ∷ rest) (whole.split ∙ ap (λ (xs : List ℕ). page ++ xs) first.split)
    ∙ append_assoc page (first.gate ∷ first.behind) (0 ∷ rest)
    ∙ sym (append_assoc page (first.gate ∷ []) (first.behind ++ 0 ∷ rest)) in (
      record {
        told = slot_head slot;
        valid = whole.proper.valid;
        is = refl;
        opened = record { gate = first.gate; rest = first.behind ++ 0 ∷ rest; opened = first.opened; split = flat };
      },
      omega (
        arith,
        ap length flat,
        length-append (page ++ first.gate ∷ []) (first.behind ++ 0 ∷ rest),
        length-append page (first.gate ∷ []),
        length-append first.behind (0 ∷ rest),
        length-slot_header (slot_head slot),
        first.some,
      ),
    )

pub open_held : (slot : Slot) (bytes : List ℕ) → 0 < length (records_of slot) → HoldsSlot slot bytes → IsOpenSlot slot.generation bytes × (4097 < length bytes)
open_held slot bytes some holds = open_front slot holds.front holds.closed.rest bytes some holds.whole holds.closed.split
