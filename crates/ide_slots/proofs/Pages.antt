-- First pages of slots as they are spelled and read, piece by piece.
use Rattle.std.specs.Prelude.{◌≡◌, ℕ, ◌+◌, ◌-◌, ◌<◌, ◌≤◌, List, [], ◌∷◌, ◌++◌, length, take, drop, replicate, slice_index, slice_range, refl}
use Rattle.std.specs.Int.{w32, w64, to_le_bytes}
use Rattle.std.proofs.Common.{arith, sym, ap, ◌∙◌, get_or}
use Rattle.std.proofs.lemmas.List.{append_assoc, drop-drop, drop_at, drop_more, length-append, length-drop, length-take, take_at, take_all}
use Rattle.std.proofs.lemmas.List.Folds.{drop_split}
use Rattle.ide_journal.specs.Format.{letters, zeros}
use Rattle.ide_journal.proofs.OneList.{length-letters, length-zeros, same_version}
use Rattle.ide_journal.proofs.Whole.{are_zeros}
use Rattle.ide_slots.specs.Slot.{IsValidHead, SlotHead, slot_header}
use Rattle.ide_slots.proofs.Heads.{same_long, same_short, same_told}

-- all of a first page before the zeros
abbrev pub told_bytes : SlotHead → List ℕ
told_bytes told =
    letters told.head.version ++ told.head.tag ∷ [] ++ to_le_bytes w64 told.generation ++ to_le_bytes w64 told.base
    ++ to_le_bytes w32 told.commands ++ to_le_bytes w32 told.parts

six : (a b c d e f : List ℕ) → length (a ++ b ++ c ++ d ++ e ++ f) ≡ length a + length b + length c + length d + length e + length f
six a b c d e f = simp length-append

length-told_bytes : (told : SlotHead) → length (told_bytes told) ≡ 33
length-told_bytes told =
    let generation : length (to_le_bytes w64 told.generation) ≡ 8 = refl in
    let base : length (to_le_bytes w64 told.base) ≡ 8 = refl in
    let commands : length (to_le_bytes w32 told.commands) ≡ 4 = refl in
    let parts : length (to_le_bytes w32 told.parts) ≡ 4 = refl in
    omega (
      arith,
      six (letters told.head.version) (told.head.tag ∷ []) (to_le_bytes w64 told.generation) (to_le_bytes w64 told.base)
          (to_le_bytes w32 told.commands) (to_le_bytes w32 told.parts),
      length-letters told.head.version,
      generation,
      base,
      commands,
      parts,
    )

-- filled up to the page, they are the first page
pub filled_up : (told : SlotHead) (items : List ℕ) (len : ℕ) → items ≡ told_bytes told → len ≡ length items
    → take 4096 items ++ replicate (4096 - len) 0 ≡ slot_header told
unfolding slot_header zeros
filled_up told items len are size =
    let long : length items ≡ 33 = ap length are ∙ length-told_bytes told in
    let rest : 4096 - len ≡ 4063 = omega (arith, long, size) in
    ap (λ (xs : List ℕ). xs ++ replicate (4096 - len) 0) (take_all 4096 items (omega (arith, long)) ∙ are)
    ∙ ap (λ (n : ℕ). told_bytes told ++ replicate n 0) rest

-- what stands where in a first page
pub record HasPieces (told : SlotHead) (bytes : List ℕ) : Type 0 where
  pub named : slice_range bytes 0 8 ≡ letters told.head.version
  pub tagged : slice_range bytes 8 9 ≡ told.head.tag ∷ []
  pub generation : slice_range bytes 9 17 ≡ to_le_bytes w64 told.generation
  pub base : slice_range bytes 17 25 ≡ to_le_bytes w64 told.base
  pub commands : slice_range bytes 25 29 ≡ to_le_bytes w32 told.commands
  pub parts : slice_range bytes 29 33 ≡ to_le_bytes w32 told.parts
  pub filled : slice_range bytes 33 4096 ≡ zeros 4063

-- a piece before what stands behind it
pub before : (bytes piece behind : List ℕ) (a b : ℕ) → a ≤ b → slice_range bytes a b ≡ piece → drop b bytes ≡ behind → drop a bytes ≡ piece ++ behind
before bytes piece behind a b order here rest =
    drop_split bytes a b order ∙ ap (λ (xs : List ℕ). xs ++ drop b bytes) here ∙ ap (λ (xs : List ℕ). piece ++ xs) rest

seven : (a b c d e f z rest : List ℕ) → a ++ (b ++ (c ++ (d ++ (e ++ (f ++ (z ++ rest)))))) ≡ a ++ b ++ c ++ d ++ e ++ f ++ z ++ rest
seven a b c d e f z rest = simp append_assoc

-- the pieces make a first page
pub page_is : (told : SlotHead) (bytes : List ℕ) → HasPieces told bytes → bytes ≡ slot_header told ++ drop 4096 bytes
unfolding slot_header
page_is told bytes has =
    let rest = drop 4096 bytes in
    let filled = before bytes (zeros 4063) rest 33 4096 (omega arith) has.filled refl in
    let parts = before bytes _ _ 29 33 (omega arith) has.parts filled in
    let commands = before bytes _ _ 25 29 (omega arith) has.commands parts in
    let base = before bytes _ _ 17 25 (omega arith) has.base commands in
    let generation = before bytes _ _ 9 17 (omega arith) has.generation base in
    let tagged = before bytes _ _ 8 9 (omega arith) has.tagged generation in
    let named = before bytes _ _ 0 8 (omega arith) has.named tagged in
    named ∙ seven (letters told.head.version) (told.head.tag ∷ []) (to_le_bytes w64 told.generation) (to_le_bytes w64 told.base)
    (to_le_bytes w32 told.commands) (to_le_bytes w32 told.parts) (zeros 4063) rest

-- the piece that stands there, and what stands behind it
pub piece_of : (bytes piece behind : List ℕ) (a b : ℕ) → a + length piece ≡ b → drop a bytes ≡ piece ++ behind
    → (slice_range bytes a b ≡ piece) × (drop b bytes ≡ behind)
piece_of bytes piece behind a b size is = (
  ap (λ (xs : List ℕ). take (b - a) xs) is ∙ take_at piece behind (b - a) (omega (arith, size)),
  ap (λ (n : ℕ). drop n bytes) (sym size) ∙ sym (drop-drop (length piece) a bytes) ∙ ap (λ (xs : List ℕ). drop (length piece) xs) is
      ∙ drop_at piece behind (length piece) refl,
)

-- a first page has its pieces
pub pieces_are : (told : SlotHead) (bytes rest : List ℕ) → bytes ≡ slot_header told ++ rest → HasPieces told bytes
unfolding slot_header
pieces_are told bytes rest is =
    let flat = is ∙ sym (seven (letters told.head.version) (told.head.tag ∷ []) (to_le_bytes w64 told.generation) (to_le_bytes w64 told.base)
    (to_le_bytes w32 told.commands) (to_le_bytes w32 told.parts) (zeros 4063) rest) in
    let named = piece_of bytes (letters told.head.version) _ 0 8 (omega (arith, length-letters told.head.version)) flat in
    let tagged = piece_of bytes (told.head.tag ∷ []) _ 8 9 refl named.1 in
    let generation = piece_of bytes (to_le_bytes w64 told.generation) _ 9 17 refl tagged.1 in
    let base = piece_of bytes (to_le_bytes w64 told.base) _ 17 25 refl generation.1 in
    let commands = piece_of bytes (to_le_bytes w32 told.commands) _ 25 29 refl base.1 in
    let parts = piece_of bytes (to_le_bytes w32 told.parts) _ 29 33 refl commands.1 in
    let size : 33 + length (zeros 4063) ≡ 4096 = omega (arith, length-zeros 4063) in
    let filled = piece_of bytes (zeros 4063) rest 33 4096 size parts.1 in
    record {
      named = named.0;
      tagged = tagged.0;
      generation = generation.0;
      base = base.0;
      commands = commands.0;
      parts = parts.0;
      filled = filled.0;
    }

-- and what tells them, if its numbers are of 32 bits, is what they tell
pub same_pieces : (told other : SlotHead) (bytes : List ℕ) → IsValidHead told → other.generation ≤ 4294967295 → other.base ≤ 4294967295
    → other.commands ≤ 4294967295 → other.parts ≤ 4294967295 → HasPieces told bytes → HasPieces other bytes → told ≡ other
same_pieces told other bytes valid generation base commands parts has has' =
    same_told told other (same_version told.head.version other.head.version (sym has.named ∙ has'.named))
    (ap (λ (xs : List ℕ). get_or xs 0 0) (sym has.tagged ∙ has'.tagged))
    (same_long told.generation other.generation valid.generation generation (sym has.generation ∙ has'.generation))
    (same_long told.base other.base valid.base base (sym has.base ∙ has'.base))
    (same_short told.commands other.commands valid.commands commands (sym has.commands ∙ has'.commands))
    (same_short told.parts other.parts valid.parts parts (sym has.parts ∙ has'.parts))

-- the pieces as they are read
pub pieces_read : (told : SlotHead) (bytes : List ℕ) → 4096 ≤ length bytes → slice_range bytes 0 8 ≡ letters told.head.version
    → slice_index bytes 8 ≡ told.head.tag → slice_range bytes 9 17 ≡ to_le_bytes w64 told.generation
    → slice_range bytes 17 25 ≡ to_le_bytes w64 told.base → slice_range bytes 25 29 ≡ to_le_bytes w32 told.commands
    → slice_range bytes 29 33 ≡ to_le_bytes w32 told.parts
    → ((k : ℕ) → k < length (slice_range bytes 33 4096) → slice_index (slice_range bytes 33 4096) k ≡ 0) → HasPieces told bytes
pieces_read told bytes long named tagged generation base commands parts filled =
    let size : length (slice_range bytes 33 4096) ≡ 4063 = simp (length-take, length-drop) (omega (arith, long)) in
    record {
      named = named;
      tagged = ap (λ (xs : List ℕ). take 1 xs) (drop_more bytes 8 0 (omega (arith, long)))
          ∙ ap (λ (tag : ℕ). tag ∷ []) tagged;
      generation = generation;
      base = base;
      commands = commands;
      parts = parts;
      filled = are_zeros (slice_range bytes 33 4096) 4063 size filled;
    }
