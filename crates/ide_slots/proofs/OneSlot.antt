-- A file holds one slot at most: the first pages are the same, then the records up to the closed gate.
use Rattle.std.specs.Prelude.{◌≡◌, ℕ, List, ◌∷◌, ◌++◌, length}
use Rattle.std.proofs.Common.{arith, sym, ap, ◌∙◌}
use Rattle.std.proofs.lemmas.List.{append_assoc, length-append}
use Rattle.ide_journal.specs.Format.{Entry, Head, IsEntry}
use Rattle.ide_journal.proofs.OneList.{same_front}
use Rattle.ide_slots.specs.Slot.{IsFront, IsPartEntry, IsSlot, NumberedEntry, Slot, SlotHead, numbered_from, records_of, slot_head, slot_header}
use Rattle.ide_slots.specs.SlotLaws.{HoldsOneSlot}
use Rattle.ide_slots.proofs.Heads.{headers_tell_apart, length-slot_header}
use Rattle.ide_slots.proofs.Records.{AreFit, fit_both, fit_commands, fit_numbered, length-numbered, same_numbered, same_records, split_same}

pub fit_slot : (slot : Slot) → IsSlot slot → AreFit (records_of slot)
fit_slot slot is =
    fit_both (slot.commands ++ numbered_from 0 slot.parts) (numbered_from slot.base slot.rest)
    (fit_both slot.commands (numbered_from 0 slot.parts) (fit_commands 0 slot.base slot.commands is.valid.base is.commands)
    (fit_numbered IsPartEntry (λ entry part. part.short) 0 slot.parts (omega (arith, is.valid.parts)) is.parts))
    (fit_numbered IsEntry (λ entry proper. proper.short) slot.base slot.rest is.few is.rest)

same_slot : (slot other : Slot) → slot_head slot ≡ slot_head other → records_of slot ≡ records_of other → slot ≡ other
same_slot slot other heads records =
    let base : slot.base ≡ other.base = ap (λ (told : SlotHead). told.base) heads in
    let generation : slot.generation ≡ other.generation = ap (λ (told : SlotHead). told.generation) heads in
    let head : slot.head ≡ other.head = ap (λ (told : SlotHead). told.head) heads in
    let few_commands : length slot.commands ≡ length other.commands = ap (λ (told : SlotHead). told.commands) heads in
    let few_parts : length slot.parts ≡ length other.parts = ap (λ (told : SlotHead). told.parts) heads in
    let first = split_same (slot.commands ++ numbered_from 0 slot.parts) (other.commands ++ numbered_from 0 other.parts) _ _
    (omega (
      arith,
      few_commands,
      few_parts,
      length-append slot.commands (numbered_from 0 slot.parts),
      length-append other.commands (numbered_from 0 other.parts),
      length-numbered 0 slot.parts,
      length-numbered 0 other.parts,
    )) records in
    let second = split_same slot.commands other.commands _ _ few_commands first.0 in
    let parts = same_numbered 0 slot.parts other.parts second.1 in
    let rest = same_numbered other.base slot.rest other.rest (ap (λ (n : ℕ). numbered_from n slot.rest) (sym base) ∙ first.1) in
    ap (λ (h : Head). record slot { head = h }) head
    ∙ ap (λ (n : ℕ). record slot { head = other.head; generation = n }) generation
    ∙ ap (λ (n : ℕ). record slot { head = other.head; generation = other.generation; base = n }) base
    ∙ ap (λ (rs : List NumberedEntry). record other { commands = rs; parts = slot.parts; rest = slot.rest }) second.0
    ∙ ap (λ (es : List Entry). record other { parts = es; rest = slot.rest }) parts
    ∙ ap (λ (es : List Entry). record other { rest = es }) rest

-- a front and a closed gate behind it are those of one slot
pub one_front : (slot other : Slot) (front front' rest rest' : List ℕ) → IsFront slot front → IsFront other front' → front ++ 0 ∷ rest ≡ front' ++ 0 ∷ rest'
    → slot ≡ other
one_front slot other front front' rest rest' whole whole' same =
    let flat : slot_header (slot_head slot) ++ (whole.pages ++ 0 ∷ rest) ≡ slot_header (slot_head other) ++ (whole'.pages ++ 0 ∷ rest') =
    sym (append_assoc (slot_header (slot_head slot)) whole.pages (0 ∷ rest)) ∙ ap (λ (xs : List ℕ). xs ++ 0 ∷ rest) (sym whole.split) ∙ same
    ∙ ap (λ (xs : List ℕ). xs ++ 0 ∷ rest') whole'.split ∙ append_assoc (slot_header (slot_head other)) whole'.pages (0 ∷ rest') in
    let fronts = same_front (slot_header (slot_head slot)) (slot_header (slot_head other)) _ _
    (length-slot_header (slot_head slot) ∙ sym (length-slot_header (slot_head other))) flat in
    same_slot slot other (headers_tell_apart (slot_head slot) (slot_head other) whole.proper.valid whole'.proper.valid fronts.0)
    (same_records (records_of slot) (records_of other) whole.pages whole'.pages rest rest' (fit_slot slot whole.proper) (fit_slot other whole'.proper)
    whole.whole whole'.whole fronts.1)

pub holds_one_slot : HoldsOneSlot
holds_one_slot slot other bytes holds holds' =
    one_front slot other holds.front holds'.front holds.closed.rest holds'.closed.rest holds.whole holds'.whole (sym holds.closed.split ∙ holds'.closed.split)
