-- First pages of slots, piece by piece.
use Rattle.std.specs.Prelude.{◌≡◌, ℕ, ◌+◌, ◌≤◌, List, [], ◌∷◌, ◌++◌, length, refl}
use Rattle.std.specs.Int.{w32, w64, to_le_bytes, from_le_bytes}
use Rattle.std.proofs.Common.{arith, sym, ap, ◌∙◌, get_or}
use Rattle.std.proofs.lemmas.List.{append_assoc, length-append}
use Rattle.std.proofs.lemmas.Nat.{from_le_bytes-to_le_bytes_4, from_le_bytes-to_le_bytes_8}
use Rattle.ide_journal.specs.Format.{head_of, letters, zeros}
use Rattle.ide_journal.specs.declared.version.Version.{Version}
use Rattle.ide_journal.proofs.OneList.{length-letters, length-zeros, same_front, same_version}
use Rattle.ide_slots.specs.Slot.{SlotHead, slot_header}
use Rattle.ide_slots.specs.SlotLaws.{HeadersTellApart}

-- small numbers that are told by the same bytes are the same
pub same_long : (n m : ℕ) → n ≤ 4294967295 → m ≤ 4294967295 → to_le_bytes w64 n ≡ to_le_bytes w64 m → n ≡ m
same_long n m small small' same =
    sym (from_le_bytes-to_le_bytes_8 n (omega arith)) ∙ ap (from_le_bytes w64) same ∙ from_le_bytes-to_le_bytes_8 m (omega arith)

pub same_short : (n m : ℕ) → n ≤ 4294967295 → m ≤ 4294967295 → to_le_bytes w32 n ≡ to_le_bytes w32 m → n ≡ m
same_short n m small small' same =
    sym (from_le_bytes-to_le_bytes_4 n (omega arith)) ∙ ap (from_le_bytes w32) same ∙ from_le_bytes-to_le_bytes_4 m (omega arith)

seven : (a b c d e f z : List ℕ) → a ++ b ++ c ++ d ++ e ++ f ++ z ≡ a ++ (b ++ (c ++ (d ++ (e ++ (f ++ z)))))
seven a b c d e f z = simp append_assoc

sizes : (a b c d e f z : List ℕ)
    → length (a ++ b ++ c ++ d ++ e ++ f ++ z) ≡ length a + length b + length c + length d + length e + length f + length z
sizes a b c d e f z = simp length-append

pub length-slot_header : (told : SlotHead) → length (slot_header told) ≡ 4096
unfolding slot_header
length-slot_header told =
    let generation : length (to_le_bytes w64 told.generation) ≡ 8 = refl in
    let base : length (to_le_bytes w64 told.base) ≡ 8 = refl in
    let commands : length (to_le_bytes w32 told.commands) ≡ 4 = refl in
    let parts : length (to_le_bytes w32 told.parts) ≡ 4 = refl in
    omega (
      arith,
      sizes (letters told.head.version) (told.head.tag ∷ []) (to_le_bytes w64 told.generation) (to_le_bytes w64 told.base)
          (to_le_bytes w32 told.commands) (to_le_bytes w32 told.parts) (zeros 4063),
      length-letters told.head.version,
      length-zeros 4063,
      generation,
      base,
      commands,
      parts,
    )

pub same_told : (told other : SlotHead) → told.head.version ≡ other.head.version → told.head.tag ≡ other.head.tag → told.generation ≡ other.generation
    → told.base ≡ other.base → told.commands ≡ other.commands → told.parts ≡ other.parts → told ≡ other
same_told told other version tag generation base commands parts =
    ap (λ (v : Version). record told { head = head_of v told.head.tag }) version
    ∙ ap (λ (t : ℕ). record told { head = head_of other.head.version t }) tag
    ∙ ap (λ (n : ℕ). record told { head = other.head; generation = n }) generation
    ∙ ap (λ (n : ℕ). record told { head = other.head; generation = other.generation; base = n }) base
    ∙ ap (λ (n : ℕ). record other { commands = n; parts = told.parts }) commands
    ∙ ap (λ (n : ℕ). record other { parts = n }) parts

pub headers_tell_apart : HeadersTellApart
unfolding slot_header
headers_tell_apart told other valid valid' same =
    let flat = sym (seven (letters told.head.version) (told.head.tag ∷ []) (to_le_bytes w64 told.generation) (to_le_bytes w64 told.base)
    (to_le_bytes w32 told.commands) (to_le_bytes w32 told.parts) (zeros 4063)) ∙ same
    ∙ seven (letters other.head.version) (other.head.tag ∷ []) (to_le_bytes w64 other.generation) (to_le_bytes w64 other.base)
    (to_le_bytes w32 other.commands) (to_le_bytes w32 other.parts) (zeros 4063) in
    let one = same_front (letters told.head.version) (letters other.head.version) _ _ (length-letters told.head.version ∙ sym (length-letters other.head.version)) flat in
    let two = same_front (told.head.tag ∷ []) (other.head.tag ∷ []) _ _ refl one.1 in
    let three = same_front (to_le_bytes w64 told.generation) (to_le_bytes w64 other.generation) _ _ refl two.1 in
    let four = same_front (to_le_bytes w64 told.base) (to_le_bytes w64 other.base) _ _ refl three.1 in
    let five = same_front (to_le_bytes w32 told.commands) (to_le_bytes w32 other.commands) _ _ refl four.1 in
    let six = same_front (to_le_bytes w32 told.parts) (to_le_bytes w32 other.parts) (zeros 4063) (zeros 4063) refl five.1 in
    same_told told other (same_version told.head.version other.head.version one.0) (ap (λ (xs : List ℕ). get_or xs 0 0) two.0)
    (same_long told.generation other.generation valid.generation valid'.generation three.0)
    (same_long told.base other.base valid.base valid'.base four.0)
    (same_short told.commands other.commands valid.commands valid'.commands five.0)
    (same_short told.parts other.parts valid.parts valid'.parts six.0)
