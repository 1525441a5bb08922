-- What stands before the closed gate of a slot, and what is left behind the next record's gate.
use Rattle.std.specs.Prelude.{◌≡◌, ◌≢◌, ℕ, suc, ◌+◌, ◌<◌, ◌≤◌, All, List, [], ◌∷◌, ◌++◌, length}
use Rattle.std.proofs.Common.{arith, sym, ap, subst, ◌∙◌, inl, inr}
use Rattle.std.proofs.lemmas.Bool.{cases_lt}
use Rattle.std.proofs.lemmas.List.{append_assoc, length-append}
use Rattle.ide_journal.specs.Bytes.{IsAfter, IsBefore}
use Rattle.ide_journal.specs.Format.{Entry, IsEntry, after_gate}
use Rattle.ide_slots.specs.Filling.{with_gate}
use Rattle.ide_slots.specs.Sides.{IsBehind, Side}
use Rattle.ide_slots.specs.Slot.{AreCommands, HavePages, HoldsSlot, IsFront, IsSlot, NumberedEntry, Slot, numbered_from, records_of, slot_count, slot_head, slot_header, with_more}
use Rattle.ide_slots.specs.Two.{IsNextSlot}
use Rattle.ide_slots.proofs.FirstSlots.{all_more}
use Rattle.ide_slots.proofs.Records.{length-numbered, pages_more}

pub held_before : (slot : Slot) (front left : List ℕ) → IsFront slot front → IsBefore front left → HoldsSlot slot left
held_before slot front left whole before = record { front = front; whole = whole; closed = before }

all_push : {X : Type 0} (P : X → Type 0) (xs : List X) (x : X) → All P xs → P x → All P (xs ++ x ∷ [])
all_push P [] x each last = all_more P x [] last (λ k d inside. absurd (omega (arith, inside)))
all_push P (y ∷ xs) x each last =
    all_more P y (xs ++ x ∷ []) (each 0 y (omega arith)) (all_push P xs x (λ k d inside. each (suc k) d (omega (arith, inside))) last)

numbered_push : (number : ℕ) (entries : List Entry) (entry : Entry)
    → numbered_from number (entries ++ entry ∷ []) ≡ numbered_from number entries ++ (number + length entries, entry) ∷ []
numbered_push number [] entry = ap (λ (n : ℕ). (n, entry) ∷ []) (omega arith)
numbered_push number (e ∷ entries) entry =
    let same : number + 1 + length entries ≡ number + suc (length entries) = omega arith in
    ap (λ (rs : List NumberedEntry). (number, e) ∷ rs)
    (numbered_push (number + 1) entries entry ∙ ap (λ (n : ℕ). numbered_from (number + 1) entries ++ (n, entry) ∷ []) same)

records_more : (slot : Slot) (entry : Entry) → records_of (with_more slot entry) ≡ records_of slot ++ (slot_count slot, entry) ∷ []
records_more slot entry =
    let before : List NumberedEntry = slot.commands ++ numbered_from 0 slot.parts in
    ap (λ (rs : List NumberedEntry). before ++ rs) (numbered_push slot.base slot.rest entry)
    ∙ sym (append_assoc before (numbered_from slot.base slot.rest) ((slot_count slot, entry) ∷ []))

pub front_more : (slot : Slot) (entry : Entry) (front : List ℕ) (gate : ℕ) → IsFront slot front → IsEntry entry → slot_count slot ≤ 4294967294 → gate ≢ 0
    → IsFront (with_more slot entry) (front ++ gate ∷ after_gate (slot_count slot) entry)
front_more slot entry front gate whole proper low opened =
    let page : List ℕ = gate ∷ after_gate (slot_count slot) entry in
    record {
      proper = record {
        valid = whole.proper.valid;
        commands = whole.proper.commands;
        parts = whole.proper.parts;
        rest = all_push IsEntry slot.rest entry whole.proper.rest proper;
        few = omega (arith, low, length-append slot.rest (entry ∷ []));
      };
      pages = whole.pages ++ page;
      whole = subst (λ (rs : List NumberedEntry). HavePages rs (whole.pages ++ page)) (sym (records_more slot entry))
          (pages_more (records_of slot) (slot_count slot, entry) whole.pages gate whole.whole opened);
      split = ap (λ (xs : List ℕ). xs ++ page) whole.split ∙ append_assoc (slot_header (slot_head slot)) whole.pages page;
    }

one_page : (front behind rest : List ℕ) (gate : ℕ) → front ++ gate ∷ (behind ++ 0 ∷ []) ++ rest ≡ (front ++ gate ∷ behind) ++ 0 ∷ rest
one_page front behind rest gate = simp append_assoc

pub held_after : (slot : Slot) (entry : Entry) (front left : List ℕ) → IsFront slot front → IsEntry entry → slot_count slot ≤ 4294967294
    → IsAfter front (with_gate 0 (slot_count slot, entry)) left → HoldsSlot (with_more slot entry) left
held_after slot entry front left whole proper low after = record {
  front = front ++ after.gate ∷ after_gate (slot_count slot) entry;
  whole = front_more slot entry front after.gate whole proper low after.opened;
  closed = record { rest = after.rest; split = after.split ∙ one_page front (after_gate (slot_count slot) entry) after.rest after.gate };
}

pub some_more : (slot : Slot) (entry : Entry) → 0 < length (records_of (with_more slot entry))
some_more slot entry = omega (arith, ap length (records_more slot entry), length-append (records_of slot) ((slot_count slot, entry) ∷ []))

pub behind_more : (side : Side) (slot : Slot) (entry : Entry) (bytes : List ℕ) → IsBehind side slot bytes → IsBehind side (with_more slot entry) bytes
behind_more side slot entry bytes behind =
    elim behind [
      | inl first ↦ inl first
      | inr (some, other) ↦ inr (some_more slot entry, other)
    ]

count_records : (slot : Slot) → length (records_of slot) ≡ length slot.commands + length slot.parts + length slot.rest
count_records slot =
    omega (
      arith,
      length-append (slot.commands ++ numbered_from 0 slot.parts) (numbered_from slot.base slot.rest),
      length-append slot.commands (numbered_from 0 slot.parts),
      length-numbered 0 slot.parts,
      length-numbered slot.base slot.rest,
    )

-- where some record was stored, the slot has one
pub some_records : (slot : Slot) → IsSlot slot → 0 < slot_count slot → 0 < length (records_of slot)
some_records slot is some =
    elim (cases_lt 0 slot.generation) [
      | inl later ↦ omega (arith, count_records slot, is.valid.later later)
      | inr first ↦
          let none = is.valid.first (omega (arith, first)) in
          omega (arith, count_records slot, none.0, some)
    ]

some_base : (from base : ℕ) (commands : List NumberedEntry) → 0 < length commands → AreCommands from base commands → 0 < base
some_base from base [] some are = absurd (omega (arith, some))
some_base from base (r ∷ commands) some are = let below = are.1 in omega (arith, below)

-- the slot of a checkpoint has a record, and one lies below its base
pub next_some : (slot next : Slot) → IsNextSlot slot next → (0 < length (records_of next)) × (0 < next.base)
next_some slot next follows =
    let later = follows.proper.valid.later (omega (arith, follows.generation)) in
    (omega (arith, count_records next, later), some_base 0 next.base next.commands later follows.proper.commands)
