-- A slot whose records were read is held.
use Rattle.std.specs.Prelude.{◌≡◌, ℕ, ◌+◌, ◌-◌, ◌<◌, ◌≤◌, List, ◌∷◌, ◌++◌, length, take, drop, slice_index, slice_range}
use Rattle.std.proofs.Common.{arith, sym, ap, subst, ◌∙◌}
use Rattle.std.proofs.Math.Seq.{take-append-add}
use Rattle.std.proofs.lemmas.List.{append_assoc, drop-drop, drop_at, drop_more, length-drop, length-map, length-take, take-append-drop}
use Rattle.ide_slots.specs.Loading.{entries_in, slot_with}
use Rattle.ide_slots.specs.Reading.{Tells}
use Rattle.ide_slots.specs.Records.{AreInPlace, AreReadSo}
use Rattle.ide_slots.specs.Slot.{HavePages, HoldsSlot, IsFront, IsSlot, IsValidHead, NumberedEntry, SlotHead, numbered_from, records_of, slot_head, slot_header}
use Rattle.ide_slots.proofs.Heads.{length-slot_header}
use Rattle.ide_slots.proofs.Places.{commands_in, others_in, parts_in, places_behind}

-- records in their places make a slot that tells so and has them
pub record MakeSlot (told : SlotHead) (records : List NumberedEntry) : Type 0 where
  pub proper : IsSlot (slot_with told records)
  pub head : slot_head (slot_with told records) ≡ told
  pub all : records_of (slot_with told records) ≡ records

pub make_slot : (told : SlotHead) (records : List NumberedEntry) → IsValidHead told → AreInPlace told 0 0 records
    → told.commands + told.parts ≤ length records → MakeSlot told records
make_slot told records valid places enough =
    let commands : List NumberedEntry = take told.commands records in
    let behind : List NumberedEntry = drop told.commands records in
    let parts : List NumberedEntry = take told.parts behind in
    let others : List NumberedEntry = drop (told.commands + told.parts) records in
    let few_commands : length commands ≡ told.commands = simp length-take (omega (arith, enough)) in
    let long : length behind ≡ length records - told.commands = length-drop told.commands records in
    let few_parts : length parts ≡ told.parts = simp length-take (omega (arith, long, enough)) in
    let head : slot_head (slot_with told records) ≡ told =
    ap (λ (n : ℕ). record told { commands = n; parts = length (entries_in parts) }) few_commands
    ∙ ap (λ (n : ℕ). record told { parts = n }) (length-map parts _ ∙ few_parts) in
    let first = places_behind told 0 0 told.commands records places (omega (arith, enough)) in
    let second = places_behind told first.0 (0 + told.commands) told.parts behind first.1 (omega (arith, long, enough)) in
    let rest_is : drop told.parts behind ≡ others = drop-drop told.parts told.commands records in
    let are_commands = commands_in told 0 0 told.commands records places (omega arith) in
    let are_parts = parts_in told first.0 (0 + told.commands) 0 told.parts behind first.1 (omega arith) (omega arith) in
    let are_others = others_in told second.0 (0 + told.commands + told.parts) told.base others
    (subst (λ (rs : List NumberedEntry). AreInPlace told second.0 (0 + told.commands + told.parts) rs) rest_is second.1)
    (omega arith) (omega arith) valid.base in
    record {
      proper = record {
        valid = subst IsValidHead (sym head) valid;
        commands = are_commands;
        parts = are_parts.0;
        rest = are_others.0;
        few = omega (arith, length-map others (λ (r : NumberedEntry). r.1), are_others.2);
      };
      head = head;
      all = ap (λ (rs : List NumberedEntry). commands ++ rs ++ numbered_from told.base (entries_in others)) (sym are_parts.1)
          ∙ ap (λ (rs : List NumberedEntry). commands ++ parts ++ rs) (sym are_others.1)
          ∙ append_assoc commands parts others
          ∙ ap (λ (rs : List NumberedEntry). commands ++ (parts ++ rs)) (sym rest_is)
          ∙ ap (λ (rs : List NumberedEntry). commands ++ rs) (take-append-drop told.parts behind)
          ∙ take-append-drop told.commands records;
    }

-- what stands before the gate is its front
pub front_read : (told : SlotHead) (records : List NumberedEntry) (gate : ℕ) (bytes : List ℕ) → Tells told bytes → AreReadSo told records gate bytes
    → MakeSlot told records → IsFront (slot_with told records) (take gate bytes)
front_read told records gate bytes tells read made =
    let page = slot_header told in
    let long = length-slot_header told in
    let pages = slice_range bytes 4096 gate in
    let behind : drop 4096 bytes ≡ tells.rest = ap (λ (xs : List ℕ). drop 4096 xs) tells.split ∙ drop_at page tells.rest 4096 long in
    let size : gate ≡ length page + (gate - 4096) = omega (arith, long, read.behind) in
    let split : take gate bytes ≡ page ++ pages =
    ap (λ (xs : List ℕ). take gate xs) tells.split
    ∙ ap (λ (n : ℕ). take n (page ++ tells.rest)) size
    ∙ take-append-add page tells.rest (gate - 4096)
    ∙ ap (λ (xs : List ℕ). page ++ take (gate - 4096) xs) (sym behind) in
    record {
      proper = made.proper;
      pages = pages;
      whole = subst (λ (rs : List NumberedEntry). HavePages rs pages) (sym made.all) read.whole;
      split = split ∙ ap (λ (t : SlotHead). slot_header t ++ pages) (sym made.head);
    }

pub held_read : (told : SlotHead) (records : List NumberedEntry) (gate : ℕ) (bytes : List ℕ) → IsFront (slot_with told records) (take gate bytes)
    → gate < length bytes → slice_index bytes gate ≡ 0 → HoldsSlot (slot_with told records) bytes
held_read told records gate bytes front inside closed = record {
  front = take gate bytes;
  whole = front;
  closed = record {
    rest = drop (gate + 1) bytes;
    split = sym (take-append-drop gate bytes)
        ∙ ap (λ (xs : List ℕ). take gate bytes ++ xs)
        (drop_more bytes gate 0 inside ∙ ap (λ (g : ℕ). g ∷ drop (gate + 1) bytes) closed);
  };
}
