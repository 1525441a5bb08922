-- A store on one disk is a slot of generation 0.
use Rattle.std.specs.Prelude.{◌≡◌, ℕ, zero, suc, ◌+◌, ◌<◌, All, List, [], ◌∷◌, ◌++◌, refl}
use Rattle.std.specs.Int.{w32, w64, to_le_bytes}
use Rattle.std.proofs.Common.{arith, sym, ap, ◌∙◌}
use Rattle.std.proofs.lemmas.List.{append_assoc, nil_from_length}
use Rattle.ide_journal.specs.Format.{Entry, Head, Holds, IsEntry, IsPages, header, letters, zeros}
use Rattle.ide_slots.specs.Slot.{HavePages, HoldsSlot, IsSlot, NumberedEntry, Slot, first_slot, numbered_from, slot_head, slot_header}
use Rattle.ide_slots.specs.SlotLaws.{StoresAreSlots}

pub all_more : {X : Type 0} (P : X → Type 0) (x : X) (xs : List X) → P x → All P xs → All P (x ∷ xs)
all_more P x xs first each zero d inside = first
all_more P x xs first each (suc k) d inside = each k d (omega (arith, inside))

spread : (a b c d e f g : List ℕ) → a ++ b ++ c ++ d ++ e ++ f ++ g ≡ a ++ (b ++ (c ++ (d ++ (e ++ (f ++ g)))))
spread a b c d e f g = simp append_assoc

pub first_header : (head : Head) (entries : List Entry) → slot_header (slot_head (first_slot head entries)) ≡ header head
unfolding slot_header header zeros
first_header head entries =
    spread (letters head.version) (head.tag ∷ []) (to_le_bytes w64 0) (to_le_bytes w64 0) (to_le_bytes w32 0) (to_le_bytes w32 0) (zeros 4063)

have_pages : (number : ℕ) (entries : List Entry) (pages : List ℕ) → IsPages number entries pages → HavePages (numbered_from number entries) pages × All IsEntry entries
have_pages number [] pages whole = (whole, λ k d inside. absurd (omega (arith, inside)))
have_pages number (entry ∷ entries) pages (gate, rest, opened, proper, split, whole) =
    let more = have_pages (number + 1) entries rest whole in
    ((gate, rest, opened, split, more.0), all_more IsEntry entry entries proper more.1)

are_pages : (number : ℕ) (entries : List Entry) (pages : List ℕ) → HavePages (numbered_from number entries) pages → All IsEntry entries → IsPages number entries pages
are_pages number [] pages whole each = whole
are_pages number (entry ∷ entries) pages (gate, rest, opened, split, whole) each = (
  gate,
  rest,
  opened,
  each 0 entry (omega arith),
  split,
  are_pages (number + 1) entries rest whole (λ k d inside. each (suc k) d (omega (arith, inside))),
)

pub store_is_slot : (head : Head) (entries : List Entry) (bytes : List ℕ) → 0 < head.tag → Holds head entries bytes → HoldsSlot (first_slot head entries) bytes
store_is_slot head entries bytes tag holds =
    let pages = have_pages 0 entries holds.pages holds.whole in
    record {
      front = header head ++ holds.pages;
      whole = record {
        proper = record {
          valid = record {
            tag = tag;
            generation = omega arith;
            base = omega arith;
            commands = omega arith;
            parts = omega arith;
            first = λ is. (refl, refl, refl);
            later = λ less. absurd (omega (arith, less));
          };
          commands = tt;
          parts = λ k d inside. absurd (omega (arith, inside));
          rest = pages.1;
          few = omega (arith, holds.few);
        };
        pages = holds.pages;
        whole = pages.0;
        split = ap (λ (xs : List ℕ). xs ++ holds.pages) (sym (first_header head entries));
      };
      closed = record { rest = holds.rest; split = holds.split };
    }

slot_is_store : (head : Head) (entries : List Entry) (bytes : List ℕ) → HoldsSlot (first_slot head entries) bytes → Holds head entries bytes
slot_is_store head entries bytes holds = record {
  pages = holds.whole.pages;
  rest = holds.closed.rest;
  whole = are_pages 0 entries holds.whole.pages holds.whole.whole holds.whole.proper.rest;
  few = omega (arith, holds.whole.proper.few);
  split = holds.closed.split
      ∙ ap (λ (xs : List ℕ). xs ++ 0 ∷ holds.closed.rest) (holds.whole.split ∙ ap (λ (xs : List ℕ). xs ++ holds.whole.pages) (first_header head entries));
}

each_first : (slot : Slot) → IsSlot slot → slot.generation ≡ 0 → slot ≡ first_slot slot.head slot.rest
each_first slot is generation =
    let none = is.valid.first generation in
    let commands = nil_from_length slot.commands none.1 in
    let parts = nil_from_length slot.parts none.2 in
    ap (λ (n : ℕ). record slot { generation = n }) generation
    ∙ ap (λ (n : ℕ). record slot { generation = 0; base = n }) none.0
    ∙ ap (λ (rs : List NumberedEntry). record slot { generation = 0; base = 0; commands = rs }) commands
    ∙ ap (λ (es : List Entry). record slot { generation = 0; base = 0; commands = []; parts = es }) parts

pub stores_are_slots : StoresAreSlots
stores_are_slots = record { store = store_is_slot; back = slot_is_store; each = each_first }
