-- Records of a slot as they are read, piece by piece.
use Rattle.std.specs.Prelude.{◌≡◌, ℕ, ◌+◌, List, [], ◌∷◌, ◌++◌, length, drop, slice_index, slice_range, refl}
use Rattle.std.specs.Int.{w32, w64, to_le_bytes}
use Rattle.std.proofs.Common.{arith, sym, ap, ◌∙◌}
use Rattle.std.proofs.lemmas.List.{append_assoc, drop_more, length-append, length-drop, length-take}
use Rattle.ide_journal.specs.Format.{Entry, after_gate, padding, zeros}
use Rattle.ide_journal.proofs.OneList.{length-zeros}
use Rattle.ide_slots.specs.Records.{IsFrame, IsReadRecord}
use Rattle.ide_slots.specs.Slot.{NumberedEntry}
use Rattle.ide_slots.proofs.Pages.{before, piece_of}

six : (a b c d e f : List ℕ) → a ++ (b ++ (c ++ (d ++ (e ++ f)))) ≡ a ++ b ++ c ++ d ++ e ++ f
six a b c d e f = simp append_assoc

sizes_of : (a b c d e : List ℕ) → length (a ++ b ++ c ++ d ++ e) ≡ length a + length b + length c + length d + length e
sizes_of a b c d e = simp length-append

pub length-after_gate : (number : ℕ) (entry : Entry) → length (after_gate number entry) ≡ 13 + length entry.1 + padding (length entry.1)
unfolding after_gate
length-after_gate number entry =
    let told : length (to_le_bytes w64 number) ≡ 8 = refl in
    let sized : length (to_le_bytes w32 (length entry.1)) ≡ 4 = refl in
    omega (
      arith,
      sizes_of (entry.0 ∷ []) (to_le_bytes w64 number) (to_le_bytes w32 (length entry.1)) entry.1 (zeros (padding (length entry.1))),
      length-zeros (padding (length entry.1)),
      told,
      sized,
    )

-- a frame is that of a record
pub frame_is : (number count : ℕ) (bytes : List ℕ) → IsFrame number count bytes
    → IsReadRecord (number, (slice_index bytes 0, slice_range bytes 13 (13 + count))) (13 + count + padding count) bytes
unfolding after_gate
frame_is number count bytes frame =
    let size = 13 + count + padding count in
    let body = slice_range bytes 13 (13 + count) in
    let long : length body ≡ count = simp (length-take, length-drop) (omega (arith, frame.inside)) in
    let filled = before bytes (zeros (padding (length body))) (drop size bytes) (13 + count) size (omega arith)
    (frame.filled ∙ ap (λ (n : ℕ). zeros (padding n)) (sym long)) refl in
    let whole = before bytes body _ 13 (13 + count) (omega arith) refl filled in
    let sized = before bytes (to_le_bytes w32 (length body)) _ 9 13 (omega arith)
    (frame.sized ∙ ap (λ (n : ℕ). to_le_bytes w32 n) (sym long)) whole in
    let told = before bytes (to_le_bytes w64 number) _ 1 9 (omega arith) frame.numbered sized in
    let kind : bytes ≡ slice_index bytes 0 ∷ drop 1 bytes = drop_more bytes 0 0 (omega (arith, frame.inside)) in
    record {
      low = frame.low;
      short = omega (arith, long, frame.short);
      inside = frame.inside;
      split = kind ∙ ap (λ (xs : List ℕ). slice_index bytes 0 ∷ xs) told
          ∙ six (slice_index bytes 0 ∷ []) (to_le_bytes w64 number) (to_le_bytes w32 (length body)) body (zeros (padding (length body))) (drop size bytes);
    }

-- a record is framed so
pub record_is : (r : NumberedEntry) (size : ℕ) (bytes : List ℕ) → IsReadRecord r size bytes → IsFrame r.0 (length r.1.1) bytes
unfolding after_gate
record_is r size bytes read =
    let count = length r.1.1 in
    let flat = read.split ∙ sym (six (r.1.0 ∷ []) (to_le_bytes w64 r.0) (to_le_bytes w32 count) r.1.1 (zeros (padding count)) (drop size bytes)) in
    let kind = piece_of bytes (r.1.0 ∷ []) _ 0 1 refl flat in
    let told = piece_of bytes (to_le_bytes w64 r.0) _ 1 9 refl kind.1 in
    let sized = piece_of bytes (to_le_bytes w32 count) _ 9 13 refl told.1 in
    let whole = piece_of bytes r.1.1 _ 13 (13 + count) refl sized.1 in
    let filled = piece_of bytes (zeros (padding count)) (drop size bytes) (13 + count) (13 + count + padding count)
    (omega (arith, length-zeros (padding count))) whole.1 in
    record {
      low = read.low;
      numbered = told.0;
      sized = sized.0;
      short = read.short;
      filled = filled.0;
      inside = omega (
        arith,
        read.inside,
        ap length read.split,
        length-append (after_gate r.0 r.1) (drop size bytes),
        length-after_gate r.0 r.1,
        length-drop size bytes,
      );
    }
