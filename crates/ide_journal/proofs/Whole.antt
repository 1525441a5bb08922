-- Records that are read are those that were spelled.
use Rattle.std.specs.Prelude.{◌≡◌, ◌≢◌, ℕ, ◌+◌, ◌-◌, ◌<◌, ◌≤◌, ◌^◌, List, [], ◌∷◌, ◌++◌, length, take, drop, slice_index, slice_range, refl}
use Rattle.std.specs.Int.{w32, w64, to_le_bytes, from_le_bytes}
use Rattle.std.proofs.Common.{arith, sym, ap, subst, ◌∙◌}
use Rattle.std.proofs.lemmas.List.{append_assoc, length-append, length-take, length-drop, ext_get_or, get_or-replicate, take_at, drop_at, drop_more}
use Rattle.std.proofs.lemmas.Nat.{from_le_bytes-to_le_bytes_4}
use Rattle.std.proofs.lemmas.List.Folds.{drop_split}
use Rattle.ide_journal.specs.Format.{Entry, Head, letters, header, Holds, zeros, padding, after_gate, IsEntry, IsPages}
use Rattle.ide_journal.specs.Reading.{AreRead, IsRead, IsStore, IsWholeRecord}
use Rattle.ide_journal.proofs.Lists.{pages_push}
use Rattle.ide_journal.proofs.OneList.{length-zeros, length-letters}

-- a part between two others
part : (xs ys zs : List ℕ) (a b : ℕ) → length xs ≡ a → a + length ys ≡ b → slice_range (xs ++ (ys ++ zs)) a b ≡ ys
part xs ys zs a b long size =
    ap (λ (l : List ℕ). take (b - a) l) (drop_at xs (ys ++ zs) a long) ∙ take_at ys zs (b - a) (omega arith)

-- zeros, byte by byte
zeros_at : (count i : ℕ) → i < count → slice_index (zeros count) i ≡ 0
unfolding zeros
zeros_at count i inside = get_or-replicate count i 0 0 inside

pub are_zeros : (bytes : List ℕ) (count : ℕ) → length bytes ≡ count → ((k : ℕ) → k < length bytes → slice_index bytes k ≡ 0) → bytes ≡ zeros count
are_zeros bytes count size each =
    ext_get_or 0 bytes (zeros count) (size ∙ sym (length-zeros count)) (λ i inside. each i inside ∙ sym (zeros_at count i (omega (arith, size, inside))))

pub zeros_are : (bytes : List ℕ) (count : ℕ) → bytes ≡ zeros count → (k : ℕ) → k < length bytes → slice_index bytes k ≡ 0
zeros_are bytes count are k inside =
    ap (λ (xs : List ℕ). slice_index xs k) are ∙ zeros_at count k (omega (arith, ap length are, length-zeros count, inside))

-- the pieces of a record, end to end
pieces : (k : ℕ) (bytes behind_kind behind_number behind_size behind_body rest told sizes body filling told' sizes' filling' : List ℕ)
    → bytes ≡ k ∷ behind_kind → behind_kind ≡ told ++ behind_number → behind_number ≡ sizes ++ behind_size → behind_size ≡ body ++ behind_body
    → behind_body ≡ filling ++ rest → told ≡ told' → sizes ≡ sizes' → filling ≡ filling'
    → bytes ≡ k ∷ [] ++ told' ++ sizes' ++ body ++ filling' ++ rest
pieces k bytes behind_kind behind_number behind_size behind_body rest told sizes body filling told' sizes' filling' first second third fourth fifth numbered sized filled =
    let behind_body_is = fifth ∙ ap (λ (xs : List ℕ). xs ++ rest) filled in
    let behind_size_is = fourth ∙ ap (λ (xs : List ℕ). body ++ xs) behind_body_is in
    let behind_number_is = third ∙ ap (λ (xs : List ℕ). xs ++ behind_size) sized ∙ ap (λ (xs : List ℕ). sizes' ++ xs) behind_size_is in
    let behind_kind_is = second ∙ ap (λ (xs : List ℕ). xs ++ behind_number) numbered ∙ ap (λ (xs : List ℕ). told' ++ xs) behind_number_is in
    let flat : k ∷ (told' ++ (sizes' ++ (body ++ (filling' ++ rest)))) ≡ k ∷ [] ++ told' ++ sizes' ++ body ++ filling' ++ rest = simp append_assoc in
    first ∙ ap (λ (xs : List ℕ). k ∷ xs) behind_kind_is ∙ flat

-- how long they are
sizes_of : (a b c d e f : List ℕ) → length (a ++ b ++ c ++ d ++ e ++ f) ≡ length a + length b + length c + length d + length e + length f
sizes_of a b c d e f = simp length-append

-- a whole record is spelled so
pub whole_is : (number count : ℕ) (bytes : List ℕ) → IsWholeRecord number count bytes
    → bytes ≡ after_gate number (slice_index bytes 0, slice_range bytes 13 (13 + count)) ++ drop (13 + count + padding count) bytes
unfolding after_gate
whole_is number count bytes whole =
    let size = 13 + count + padding count in
    let rest = drop size bytes in
    let body = slice_range bytes 13 (13 + count) in
    let body_size : length body ≡ count = simp (length-take, length-drop) (omega (arith, whole.inside)) in
    let first : bytes ≡ slice_index bytes 0 ∷ drop 1 bytes = drop_more bytes 0 0 (omega (arith, whole.inside)) in
    let second = drop_split bytes 1 9 (omega arith) in
    let third = drop_split bytes 9 13 (omega arith) in
    let fourth = drop_split bytes 13 (13 + count) (omega arith) in
    let fifth = drop_split bytes (13 + count) size (omega arith) in
    pieces (slice_index bytes 0) bytes _ _ _ _ rest _ _ body _ (to_le_bytes w64 number) (to_le_bytes w32 (length body)) (zeros (padding (length body)))
    first second third fourth fifth whole.numbered
    (whole.sized ∙ ap (λ (n : ℕ). to_le_bytes w32 n) (sym body_size))
    (whole.filled ∙ ap (λ (n : ℕ). zeros (padding n)) (sym body_size))

-- what is spelled is a whole record
pub is_whole : (number : ℕ) (entry : Entry) (rest bytes : List ℕ) → IsEntry entry → number ≤ 4294967294 → 0 < length rest
    → bytes ≡ after_gate number entry ++ rest → IsWholeRecord number (length entry.1) bytes
unfolding after_gate
is_whole number entry rest bytes proper low some are =
    let count = length entry.1 in
    let filling : List ℕ = zeros (padding count) in
    let kind : List ℕ = entry.0 ∷ [] in
    let told : List ℕ = to_le_bytes w64 number in
    let sizes : List ℕ = to_le_bytes w32 count in
    let told_size : length told ≡ 8 = refl in
    let sizes_size : length sizes ≡ 4 = refl in
    let long : length bytes ≡ 13 + count + padding count + length rest =
    omega (arith, ap length are, sizes_of kind told sizes entry.1 filling rest, told_size, sizes_size, length-zeros (padding count)) in
    let second : bytes ≡ kind ++ (told ++ (sizes ++ entry.1 ++ filling ++ rest)) = are ∙ simp append_assoc in
    let third : bytes ≡ (kind ++ told) ++ (sizes ++ (entry.1 ++ filling ++ rest)) = are ∙ simp append_assoc in
    let fourth : bytes ≡ (kind ++ told ++ sizes) ++ (entry.1 ++ (filling ++ rest)) = are ∙ simp append_assoc in
    let fifth : bytes ≡ (kind ++ told ++ sizes ++ entry.1) ++ (filling ++ rest) = are ∙ simp append_assoc in
    let prefix_size : length (kind ++ told ++ sizes ++ entry.1) ≡ 13 + count =
    omega (arith, length-append (kind ++ told ++ sizes) entry.1, length-append (kind ++ told) sizes, length-append kind told, told_size, sizes_size) in
    let first : slice_index bytes 0 ≡ entry.0 = ap (λ (xs : List ℕ). slice_index xs 0) second in
    record {
      low = low;
      some_kind = omega (arith, first, proper.some_kind);
      known_kind = omega (arith, first, proper.known_kind);
      numbered = ap (λ (xs : List ℕ). slice_range xs 1 9) second ∙ part kind told (sizes ++ entry.1 ++ filling ++ rest) 1 9 refl refl;
      sized = ap (λ (xs : List ℕ). slice_range xs 9 13) third ∙ part (kind ++ told) sizes (entry.1 ++ filling ++ rest) 9 13 refl refl;
      short = proper.short;
      filled = ap (λ (xs : List ℕ). slice_range xs (13 + count) (13 + count + padding count)) fifth
          ∙ part (kind ++ told ++ sizes ++ entry.1) filling rest _ _ prefix_size (omega (arith, length-zeros (padding count)));
      inside = omega (arith, long, some);
    }

-- the length that the bytes tell is that of the body
pub count_is : (bytes : List ℕ) (count size : ℕ) → count < 2 ^ 32 → size ≤ 4194304 → bytes ≡ to_le_bytes w32 count → bytes ≡ to_le_bytes w32 size
    → size ≡ count
count_is bytes count size fits short told spelled =
    sym (from_le_bytes-to_le_bytes_4 size (omega arith)) ∙ ap (from_le_bytes w32) (sym spelled ∙ told) ∙ from_le_bytes-to_le_bytes_4 count fits

-- a whole record is read so
pub is_read : (number count : ℕ) (bytes : List ℕ) → IsWholeRecord number count bytes
    → IsRead number (slice_index bytes 0, slice_range bytes 13 (13 + count)) (13 + count + padding count) bytes
is_read number count bytes whole = record {
  low = whole.low;
  proper = record {
    some_kind = whole.some_kind;
    known_kind = whole.known_kind;
    short = simp (length-take, length-drop) (omega (arith, whole.short));
  };
  inside = whole.inside;
  split = whole_is number count bytes whole;
}

-- one record more is read
pub read_more : (entries : List Entry) (entry : Entry) (gate size : ℕ) (bytes : List ℕ) → AreRead entries gate bytes → slice_index bytes gate ≢ 0
    → IsRead (length entries) entry size (drop (gate + 1) bytes) → AreRead (entries ++ entry ∷ []) (gate + 1 + size) bytes
read_more entries entry gate size bytes before opened read =
    let behind = drop (gate + 1) bytes in
    let record_bytes = after_gate (length entries) entry in
    let rest = drop size behind in
    let pages = slice_range bytes 4096 gate in
    let here = slice_index bytes gate in
    let inside : gate + 1 + size < length bytes = omega (arith, read.inside, length-drop (gate + 1) bytes) in
    let record_size : length record_bytes ≡ size =
    omega (arith, ap length read.split, length-append record_bytes rest, length-drop size behind, read.inside) in
    let pages_size : length pages ≡ gate - 4096 = simp (length-take, length-drop) (omega (arith, before.inside, before.behind)) in
    let split : drop 4096 bytes ≡ (pages ++ here ∷ record_bytes) ++ rest =
    drop_split bytes 4096 gate before.behind
    ∙ ap (λ (xs : List ℕ). pages ++ xs) (drop_more bytes gate 0 before.inside ∙ ap (λ (xs : List ℕ). here ∷ xs) read.split)
    ∙ sym (append_assoc pages (here ∷ record_bytes) rest) in
    let pages_are : slice_range bytes 4096 (gate + 1 + size) ≡ pages ++ here ∷ record_bytes =
    ap (λ (xs : List ℕ). take (gate + 1 + size - 4096) xs) split
    ∙ take_at (pages ++ here ∷ record_bytes) rest (gate + 1 + size - 4096)
    (omega (arith, length-append pages (here ∷ record_bytes), pages_size, record_size, before.behind)) in
    record {
      whole = subst (λ (xs : List ℕ). IsPages 0 (entries ++ entry ∷ []) xs) (sym pages_are)
          (subst (λ (n : ℕ). IsPages 0 (entries ++ entry ∷ []) (pages ++ here ∷ after_gate n entry)) (omega arith)
          (pages_push 0 entries entry pages here before.whole opened read.proper));
      behind = omega (arith, before.behind);
      inside = inside;
      few = omega (arith, length-append entries (entry ∷ []), read.low);
    }

-- the first page, from its pieces
pub store_is : (bytes : List ℕ) (head : Head) → 4096 < length bytes → slice_range bytes 0 8 ≡ letters head.version → slice_index bytes 8 ≡ head.tag
    → 0 < head.tag → slice_range bytes 9 4096 ≡ zeros 4087 → IsStore head bytes
unfolding header
store_is bytes head inside named tagged some filled = record {
  some = some;
  inside = inside;
  split =
      drop_split bytes 0 8 (omega arith)
      ∙ ap (λ (xs : List ℕ). xs ++ drop 8 bytes) named
      ∙ ap (λ (xs : List ℕ). letters head.version ++ xs)
      (drop_more bytes 8 0 (omega arith)
      ∙ ap (λ (x : ℕ). x ∷ drop 9 bytes) tagged
      ∙ ap (λ (xs : List ℕ). head.tag ∷ xs) (drop_split bytes 9 4096 (omega arith) ∙ ap (λ (xs : List ℕ). xs ++ drop 4096 bytes) filled))
      ∙ sym (append_assoc (letters head.version) (head.tag ∷ zeros 4087) (drop 4096 bytes));
}

-- the pieces of the first page
pub is_store : (bytes : List ℕ) (head : Head) → IsStore head bytes
    → (slice_range bytes 0 8 ≡ letters head.version) × (slice_index bytes 8 ≡ head.tag) × (slice_range bytes 9 4096 ≡ zeros 4087)
unfolding header
is_store bytes head store =
    let flat : bytes ≡ letters head.version ++ (head.tag ∷ zeros 4087 ++ drop 4096 bytes) =
    store.split ∙ append_assoc (letters head.version) (head.tag ∷ zeros 4087) (drop 4096 bytes) in
    let behind : drop 8 bytes ≡ head.tag ∷ zeros 4087 ++ drop 4096 bytes =
    ap (λ (xs : List ℕ). drop 8 xs) flat ∙ drop_at (letters head.version) (head.tag ∷ zeros 4087 ++ drop 4096 bytes) 8 (length-letters head.version) in
    let tagged : drop 8 bytes ≡ slice_index bytes 8 ∷ drop 9 bytes = drop_more bytes 8 0 (omega (arith, store.inside)) in
    let both : slice_index bytes 8 ∷ drop 9 bytes ≡ head.tag ∷ (zeros 4087 ++ drop 4096 bytes) = sym tagged ∙ behind in (
      ap (λ (xs : List ℕ). slice_range xs 0 8) flat ∙ take_at (letters head.version) (head.tag ∷ zeros 4087 ++ drop 4096 bytes) 8 (length-letters head.version),
      ap (λ (xs : List ℕ). slice_index xs 0) both,
      ap (λ (xs : List ℕ). take 4087 (drop 1 xs)) both ∙ take_at (zeros 4087) (drop 4096 bytes) 4087 (length-zeros 4087),
    )

-- a store whose records are whole up to a closed gate: the first page, the records, the gate, and what stands behind it
pub split_read : (head : Head) (entries : List Entry) (gate : ℕ) (bytes : List ℕ) → IsStore head bytes → AreRead entries gate bytes
    → slice_index bytes gate ≡ 0 → bytes ≡ header head ++ slice_range bytes 4096 gate ++ 0 ∷ drop (gate + 1) bytes
split_read head entries gate bytes store read closed =
    store.split
    ∙ ap (λ (xs : List ℕ). header head ++ xs)
    (drop_split bytes 4096 gate read.behind
    ∙ ap (λ (xs : List ℕ). slice_range bytes 4096 gate ++ xs)
    (drop_more bytes gate 0 read.inside ∙ ap (λ (x : ℕ). x ∷ drop (gate + 1) bytes) closed))
    ∙ sym (append_assoc (header head) (slice_range bytes 4096 gate) (0 ∷ drop (gate + 1) bytes))

-- it holds them
pub holds_read : (head : Head) (entries : List Entry) (gate : ℕ) (bytes : List ℕ) → IsStore head bytes → AreRead entries gate bytes
    → slice_index bytes gate ≡ 0 → Holds head entries bytes
holds_read head entries gate bytes store read closed = record {
  pages = slice_range bytes 4096 gate;
  rest = drop (gate + 1) bytes;
  whole = read.whole;
  few = read.few;
  split = split_read head entries gate bytes store read closed;
}
