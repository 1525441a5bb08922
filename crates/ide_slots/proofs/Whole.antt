-- From the write of its first gate on, the slot is closed or whole.
use Rattle.std.specs.Prelude.{◌≡◌, ◌≢◌, ◌⊎◌, ℕ, ◌<◌, List, [], ◌∷◌, ◌++◌, length, refl}
use Rattle.std.specs.List.{concat}
use Rattle.std.proofs.Common.{arith, sym, ap, subst, ◌∙◌, inl, inr}
use Rattle.std.proofs.lemmas.List.{append-nil, append_assoc, length-append}
use Rattle.ide_disk.specs.Disk.{DiskState, Keeps, LeftOf, Wrote, synced_now}
use Rattle.ide_journal.specs.Bytes.{IsBeforeOrAfter}
use Rattle.ide_journal.specs.Format.{after_gate}
use Rattle.ide_journal.specs.declared.stage.Stage.TheVariants.{GateWritten}
use Rattle.ide_journal.proofs.Left.{left_at_gate, left_in}
use Rattle.ide_slots.specs.DiskCalls.{LeavesWithin}
use Rattle.ide_slots.specs.Filling.{AtFilling, Filling, Closes, Fills, Heads, IsLate, Lasts, OpensGate, Settles, Trims, chunks, fill_call, filled_by, with_gate}
use Rattle.ide_slots.specs.FillingLaws.{FillingsEndWhole}
use Rattle.ide_slots.specs.Sides.{Side}
use Rattle.ide_slots.specs.Slot.{HavePages, HoldsSlot, IsClosedSlot, IsFront, IsSlot, NumberedEntry, Slot, records_of, slot_head, slot_header}
use Rattle.ide_slots.proofs.Heads.{length-slot_header}

-- behind an open gate, what was written makes pages and a closed gate
pub record MakePages (records : List NumberedEntry) (gate : ℕ) : Type 0 where
  pub pages : List ℕ
  pub whole : HavePages records pages
  pub split : gate ∷ concat (chunks records) ≡ pages ++ 0 ∷ []

pub chunks_make_pages : (records : List NumberedEntry) (gate : ℕ) → 0 < length records → gate ≢ 0 → MakePages records gate
chunks_make_pages [] gate some opened = absurd (omega (arith, some))
chunks_make_pages (r ∷ []) gate some opened = record {
  pages = gate ∷ after_gate r.0 r.1;
  whole = (gate, [], opened, sym (append-nil (gate ∷ after_gate r.0 r.1)), refl);
  split = ap (λ (xs : List ℕ). gate ∷ xs) (append-nil (with_gate 0 r));
}
chunks_make_pages (r ∷ (s ∷ records)) gate some opened =
    let more = chunks_make_pages (s ∷ records) 1 (omega arith) (λ same. absurd (omega (arith, same))) in
    record {
      pages = gate ∷ after_gate r.0 r.1 ++ more.pages;
      whole = (gate, more.pages, opened, refl, more.whole);
      split = ap (λ (xs : List ℕ). gate ∷ xs) (append_assoc (after_gate r.0 r.1) (1 ∷ []) (concat (chunks (s ∷ records)))
          ∙ ap (λ (xs : List ℕ). after_gate r.0 r.1 ++ xs) more.split ∙ sym (append_assoc (after_gate r.0 r.1) more.pages (0 ∷ [])));
    }

-- the front that was made, and how long it is
pub record MakesFront (next : Slot) (gate : ℕ) : Type 0 where
  pub front : List ℕ
  pub whole : IsFront next front
  pub split : slot_header (slot_head next) ++ gate ∷ filled_by next ≡ front ++ 0 ∷ []

pub makes_front : (next : Slot) (gate : ℕ) → IsSlot next → 0 < length (records_of next) → gate ≢ 0 → MakesFront next gate
makes_front next gate proper some opened =
    let made = chunks_make_pages (records_of next) gate some opened in
    let page = slot_header (slot_head next) in
    record {
      front = page ++ made.pages;
      whole = record { proper = proper; pages = made.pages; whole = made.whole; split = refl };
      split = ap (λ (xs : List ℕ). page ++ xs) made.split ∙ sym (append_assoc page made.pages (0 ∷ []));
    }

pub whole_after : (next : Slot) (left : List ℕ) → IsSlot next → 0 < length (records_of next)
    → IsBeforeOrAfter (slot_header (slot_head next)) (filled_by next) left → IsClosedSlot left ⊎ HoldsSlot next left
whole_after next left proper some either =
    elim either [
      | inl before ↦ inl (record { page = slot_header (slot_head next); long = length-slot_header (slot_head next); closed = before })
      | inr after ↦
          let made = makes_front next after.gate proper some after.opened in
          inr (record {
            front = made.front;
            whole = made.whole;
            closed = record {
              rest = after.rest;
              split = after.split ∙ ap (λ (xs : List ℕ). xs ++ after.rest) made.split ∙ append_assoc made.front (0 ∷ []) after.rest;
            };
          })
    ]

some_filled : (records : List NumberedEntry) → 0 < length records → 0 < length (concat (chunks records))
some_filled [] some = absurd (omega (arith, some))
some_filled (r ∷ []) some = omega (arith, length-append (with_gate 0 r) [], length-append (after_gate r.0 r.1) (0 ∷ []))
some_filled (r ∷ (s ∷ records)) some =
    omega (arith, length-append (with_gate 1 r) (concat (chunks (s ∷ records))), length-append (after_gate r.0 r.1) (1 ∷ []))

late : (side : Side) (generation : ℕ) (next : Slot) (fill : Filling) (disk : DiskState) (left : List ℕ)
    → IsSlot next → 0 < length (records_of next) → IsLate fill → AtFilling side generation next fill disk
    → LeavesWithin (fill_call next fill) disk left → IsClosedSlot left ⊎ HoldsSlot next left
late side generation next (Closes closed) disk left proper some is_late at leaves = absurd is_late
late side generation next Settles disk left proper some is_late at leaves = absurd is_late
late side generation next Trims disk left proper some is_late at leaves = absurd is_late
late side generation next Heads disk left proper some is_late at leaves = absurd is_late
late side generation next (Fills place todo) disk left proper some is_late at leaves = absurd is_late
late side generation next OpensGate disk left proper some is_late knows leaves =
    let page = slot_header (slot_head next) in
    let tail = filled_by next in
    whole_after next left proper some (left_at_gate page tail left (some_filled (records_of next) some)
    (subst (λ (n : ℕ). Keeps (page ++ 0 ∷ tail) (Wrote n 1 ∷ []) left) (sym (length-slot_header (slot_head next)))
    (subst (λ (d : DiskState). LeftOf d.synced (Wrote 4096 1 ∷ d.changes) left) knows leaves)))
late side generation next Lasts disk left proper some is_late knows leaves =
    whole_after next left proper some
    (left_in GateWritten (slot_header (slot_head next)) (filled_by next) disk (some_filled (records_of next) some) knows left leaves)

whole_at_last : (side : Side) (generation : ℕ) (next : Slot) (disk : DiskState) → IsSlot next → 0 < length (records_of next)
    → AtFilling side generation next Lasts disk → HoldsSlot next (synced_now disk).now
whole_at_last side generation next disk proper some knows =
    let made = makes_front next 1 proper some (λ same. absurd (omega (arith, same))) in
    record {
      front = made.front;
      whole = made.whole;
      closed = record { rest = []; split = ap (λ (d : DiskState). d.now) knows ∙ made.split };
    }

pub fillings_end_whole : FillingsEndWhole
fillings_end_whole = record { late = late; whole = whole_at_last }
