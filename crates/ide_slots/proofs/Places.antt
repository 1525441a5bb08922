-- Records in their places make a slot.
use Rattle.std.specs.Prelude.{◌≡◌, ◌≢◌, ℕ, zero, suc, ◌+◌, ◌-◌, ◌<◌, ◌≤◌, All, List, [], ◌∷◌, ◌++◌, length, take, drop, slice_index, slice_range, refl}
use Rattle.std.proofs.Common.{arith, sym, ap, subst, ◌∙◌}
use Rattle.std.proofs.lemmas.List.{append_assoc, length-append, length-drop, length-take, take_at, drop_more}
use Rattle.std.proofs.lemmas.List.Folds.{drop_split}
use Rattle.ide_journal.specs.Format.{IsEntry, after_gate}
use Rattle.ide_slots.specs.Loading.{entries_in}
use Rattle.ide_slots.specs.Records.{AreInPlace, AreReadSo, IsReadRecord, MayStand, as_command, as_other, as_part, end_of_numbers}
use Rattle.ide_slots.specs.Slot.{AreCommands, HavePages, IsCommandEntry, IsPartEntry, NumberedEntry, SlotHead, numbered_from}
use Rattle.ide_slots.proofs.FirstSlots.{all_more}
use Rattle.ide_slots.proofs.Records.{pages_more}

command_of : (told : SlotHead) (from place : ℕ) (r : NumberedEntry) → MayStand told from place r → place < told.commands
    → IsCommandEntry r.1 × (from ≤ r.0) × (r.0 < told.base)
command_of told from place r (as_command early command order below) before = (command, order, below)
command_of told from place r (as_part late early part number) before = absurd (omega (arith, late, before))
command_of told from place r (as_other late proper number low) before = absurd (omega (arith, late, before))

part_of : (told : SlotHead) (from place : ℕ) (r : NumberedEntry) → MayStand told from place r → told.commands ≤ place
    → place < told.commands + told.parts → IsPartEntry r.1 × (told.commands + r.0 ≡ place)
part_of told from place r (as_command early command order below) behind before = absurd (omega (arith, early, behind))
part_of told from place r (as_part late early part number) behind before = (part, number)
part_of told from place r (as_other late proper number low) behind before = absurd (omega (arith, late, before))

other_of : (told : SlotHead) (from place : ℕ) (r : NumberedEntry) → MayStand told from place r → told.commands + told.parts ≤ place
    → IsEntry r.1 × (told.commands + told.parts + r.0 ≡ told.base + place) × (r.0 ≤ 4294967294)
other_of told from place r (as_command early command order below) behind = absurd (omega (arith, early, behind))
other_of told from place r (as_part late early part number) behind = absurd (omega (arith, early, behind))
other_of told from place r (as_other late proper number low) behind = (proper, number, low)

-- the first records are commands
pub commands_in : (told : SlotHead) (from place k : ℕ) (records : List NumberedEntry) → AreInPlace told from place records
    → place + k ≤ told.commands → AreCommands from told.base (take k records)
commands_in told from place zero records places fits = tt
commands_in told from place (suc k) [] places fits = tt
commands_in told from place (suc k) (r ∷ records) places fits =
    let command = command_of told from place r places.0 (omega (arith, fits)) in (
      command.1,
      command.2,
      command.0,
      commands_in told (r.0 + 1) (place + 1) k records places.1 (omega (arith, fits)),
    )

-- those behind them are parts
pub parts_in : (told : SlotHead) (from place number k : ℕ) (records : List NumberedEntry) → AreInPlace told from place records
    → told.commands + number ≡ place → place + k ≤ told.commands + told.parts
    → All IsPartEntry (entries_in (take k records)) × (take k records ≡ numbered_from number (entries_in (take k records)))
parts_in told from place number zero records places starts fits = (λ i d inside. absurd (omega (arith, inside)), refl)
parts_in told from place number (suc k) [] places starts fits = (λ i d inside. absurd (omega (arith, inside)), refl)
parts_in told from place number (suc k) (r ∷ records) places starts fits =
    let part = part_of told from place r places.0 (omega (arith, starts)) (omega (arith, fits)) in
    let others = parts_in told (r.0 + 1) (place + 1) (number + 1) k records places.1 (omega (arith, starts)) (omega (arith, fits)) in
    let same : r.0 ≡ number = omega (arith, part.1, starts) in (
      all_more IsPartEntry r.1 (entries_in (take k records)) part.0 others.0,
      ap (λ (n : ℕ). (n, r.1) ∷ take k records) same ∙ ap (λ (rs : List NumberedEntry). (number, r.1) ∷ rs) others.1,
    )

-- and those behind the parts are records from the base on
pub others_in : (told : SlotHead) (from place number : ℕ) (records : List NumberedEntry) → AreInPlace told from place records
    → told.commands + told.parts ≤ place → told.commands + told.parts + number ≡ told.base + place → number ≤ 4294967295
    → All IsEntry (entries_in records) × (records ≡ numbered_from number (entries_in records)) × (number + length records ≤ 4294967295)
others_in told from place number [] places behind starts low = (λ i d inside. absurd (omega (arith, inside)), refl, omega (arith, low))
others_in told from place number (r ∷ records) places behind starts low =
    let other = other_of told from place r places.0 behind in
    let same : r.0 ≡ number = omega (arith, other.1, starts) in
    let others = others_in told (r.0 + 1) (place + 1) (number + 1) records places.1 (omega (arith, behind)) (omega (arith, starts))
    (omega (arith, same, other.2)) in (
      all_more IsEntry r.1 (entries_in records) other.0 others.0,
      ap (λ (n : ℕ). (n, r.1) ∷ records) same ∙ ap (λ (rs : List NumberedEntry). (number, r.1) ∷ rs) others.1,
      omega (arith, others.2),
    )

-- what stands behind some of them is in place too
pub places_behind : (told : SlotHead) (from place k : ℕ) (records : List NumberedEntry) → AreInPlace told from place records → k ≤ length records
    → (later : ℕ) × AreInPlace told later (place + k) (drop k records)
places_behind told from place zero records places fits = (from, subst (λ (p : ℕ). AreInPlace told from p records) (omega arith) places)
places_behind told from place (suc k) [] places fits = absurd (omega (arith, fits))
places_behind told from place (suc k) (r ∷ records) places fits =
    let others = places_behind told (r.0 + 1) (place + 1) k records places.1 (omega (arith, fits)) in
    let same : place + 1 + k ≡ place + suc k = omega arith in
    (others.0, subst (λ (p : ℕ). AreInPlace told others.0 p (drop k records)) same others.1)

-- one record more
pub places_push : (told : SlotHead) (from place : ℕ) (records : List NumberedEntry) (r : NumberedEntry) → AreInPlace told from place records
    → MayStand told (end_of_numbers from records) (place + length records) r → AreInPlace told from place (records ++ r ∷ [])
places_push told from place [] r places stands = (subst (λ (p : ℕ). MayStand told from p r) (omega arith) stands, tt)
places_push told from place (q ∷ records) r places stands =
    let same : place + suc (length records) ≡ place + 1 + length records = omega arith in (
      places.0,
      places_push told (q.0 + 1) (place + 1) records r places.1
          (subst (λ (p : ℕ). MayStand told (end_of_numbers (q.0 + 1) records) p r) same stands),
    )

pub end_push : (from : ℕ) (records : List NumberedEntry) (r : NumberedEntry) → end_of_numbers from (records ++ r ∷ []) ≡ r.0 + 1
end_push from [] r = refl
end_push from (q ∷ records) r = end_push (q.0 + 1) records r

pub read_more : (told : SlotHead) (records : List NumberedEntry) (r : NumberedEntry) (gate size : ℕ) (bytes : List ℕ) → AreReadSo told records gate bytes
    → slice_index bytes gate ≢ 0 → IsReadRecord r size (drop (gate + 1) bytes)
    → MayStand told (end_of_numbers 0 records) (length records) r → AreReadSo told (records ++ r ∷ []) (gate + 1 + size) bytes
read_more told records r gate size bytes before opened read stands =
    let behind = drop (gate + 1) bytes in
    let record_bytes = after_gate r.0 r.1 in
    let rest = drop size behind in
    let pages = slice_range bytes 4096 gate in
    let here = slice_index bytes gate in
    let inside : gate + 1 + size < length bytes = omega (arith, read.inside, length-drop (gate + 1) bytes) in
    let record_size : length record_bytes ≡ size =
    omega (arith, ap length read.split, length-append record_bytes rest, length-drop size behind, read.inside) in
    let pages_size : length pages ≡ gate - 4096 = simp (length-take, length-drop) (omega (arith, before.inside, before.behind)) in
    let split : drop 4096 bytes ≡ (pages ++ here ∷ record_bytes) ++ rest =
    drop_split bytes 4096 gate before.behind
    ∙ ap (λ (xs : List ℕ). pages ++ xs) (drop_more bytes gate 0 before.inside ∙ ap (λ (xs : List ℕ). here ∷ xs) read.split)
    ∙ sym (append_assoc pages (here ∷ record_bytes) rest) in
    let pages_are : slice_range bytes 4096 (gate + 1 + size) ≡ pages ++ here ∷ record_bytes =
    ap (λ (xs : List ℕ). take (gate + 1 + size - 4096) xs) split
    ∙ take_at (pages ++ here ∷ record_bytes) rest (gate + 1 + size - 4096)
    (omega (arith, length-append pages (here ∷ record_bytes), pages_size, record_size, before.behind)) in
    record {
      whole = subst (λ (xs : List ℕ). HavePages (records ++ r ∷ []) xs) (sym pages_are) (pages_more records r pages here before.whole opened);
      places = places_push told 0 0 records r before.places
          (subst (λ (p : ℕ). MayStand told (end_of_numbers 0 records) p r) (omega arith) stands);
      behind = omega (arith, before.behind);
      inside = inside;
    }
