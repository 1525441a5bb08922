-- The place of the first record that is not whole is told of files that hold no slot alone, and it is one place.
use Rattle.std.specs.Prelude.{◌≡◌, ◌≢◌, ℕ, suc, ◌+◌, ◌<◌, ◌≤◌, All, List, [], ◌∷◌, ◌++◌, length, drop, slice_index, slice_range, refl}
use Rattle.std.proofs.Common.{arith, sym, ap, subst, ◌∙◌, get_or}
use Rattle.std.proofs.lemmas.List.{append_assoc, drop_at, drop_more, length-append}
use Rattle.std.proofs.lemmas.List.Folds.{drop_split}
use Rattle.ide_journal.specs.Format.{Entry, IsEntry, after_gate}
use Rattle.ide_slots.specs.ReadingLaws.{PlacesAreExact}
use Rattle.ide_slots.specs.Records.{AreInPlace, AreReadSo, IsDamagedAt, IsReadRecord, Lacks, MayStand, NoneStands, as_command, as_other, as_part, broken, end_of_numbers, missing}
use Rattle.ide_slots.specs.Slot.{AreCommands, HavePages, HoldsSlot, IsPartEntry, IsSlot, IsValidHead, NumberedEntry, Slot, SlotHead, numbered_from, records_of, slot_head, slot_header}
use Rattle.ide_slots.proofs.Heads.{length-slot_header}
use Rattle.ide_slots.proofs.Records.{AreFit, IsFit, length-numbered, same_record}

fit_one : (told : SlotHead) (from place : ℕ) (r : NumberedEntry) → IsValidHead told → MayStand told from place r → IsFit r
fit_one told from place r valid (as_command early command order below) =
    record { low = omega (arith, below, valid.base); short = command.short }
fit_one told from place r valid (as_part late early part number) =
    record { low = omega (arith, number, early, valid.parts); short = part.short }
fit_one told from place r valid (as_other late proper number low) = record { low = omega (arith, low); short = proper.short }

fit_places : (told : SlotHead) (from place : ℕ) (records : List NumberedEntry) → IsValidHead told → AreInPlace told from place records → AreFit records
fit_places told from place [] valid places = tt
fit_places told from place (r ∷ records) valid places =
    (fit_one told from place r valid places.0, fit_places told (r.0 + 1) (place + 1) records valid places.1)

-- a record that stands at the front of bytes, with more behind it, is read
stands_read : (r : NumberedEntry) (bytes behind : List ℕ) → IsFit r → 0 < length behind → bytes ≡ after_gate r.0 r.1 ++ behind
    → IsReadRecord r (length (after_gate r.0 r.1)) bytes
stands_read r bytes behind fit some is = record {
  low = fit.low;
  short = fit.short;
  inside = omega (arith, some, ap length is, length-append (after_gate r.0 r.1) behind);
  split = is ∙ ap (λ (xs : List ℕ). after_gate r.0 r.1 ++ xs)
      (sym (ap (λ (xs : List ℕ). drop (length (after_gate r.0 r.1)) xs) is ∙ drop_at (after_gate r.0 r.1) behind (length (after_gate r.0 r.1)) refl));
}

-- where records end at this gate, no others that are in place go beyond them
beyond : (told : SlotHead) (from place : ℕ) (records others : List NumberedEntry) (pages pages' more behind : List ℕ) (gate : ℕ)
    → AreFit records → AreFit others → AreInPlace told from place others → HavePages records pages → HavePages others pages'
    → 0 < length behind → pages ++ gate ∷ more ≡ pages' ++ behind
    → (gate ≢ 0 → NoneStands told (end_of_numbers from records) (place + length records) more) → length others ≤ length records
beyond told from place records [] pages pages' more behind gate fit fit' places whole whole' some same stops = omega arith
beyond told from place [] (s ∷ others) pages pages' more behind gate fit fit' places whole (g, rest, opened, split, goes_on) some same stops =
    let flat : gate ∷ more ≡ g ∷ (after_gate s.0 s.1 ++ (rest ++ behind)) =
    ap (λ (p : List ℕ). p ++ gate ∷ more) (sym whole) ∙ same ∙ ap (λ (p : List ℕ). p ++ behind) split
    ∙ append_assoc (g ∷ after_gate s.0 s.1) rest behind in
    let gates : gate ≡ g = ap (λ (xs : List ℕ). get_or xs 0 0) flat in
    let tails : more ≡ after_gate s.0 s.1 ++ (rest ++ behind) = ap (drop 1) flat in
    let read = stands_read s more (rest ++ behind) fit'.0 (omega (arith, some, length-append rest behind)) tails in
    absurd (stops (λ closed. opened (sym gates ∙ closed)) s (length (after_gate s.0 s.1)) read
    (subst (λ (p : ℕ). MayStand told from p s) (omega arith) places.0))
beyond told from place (r ∷ records) (s ∷ others) pages pages' more behind gate fit fit' places (g, rest, opened, split, goes_on) (g', rest', opened', split', goes_on') some same stops =
    let flat : g ∷ (after_gate r.0 r.1 ++ (rest ++ gate ∷ more)) ≡ g' ∷ (after_gate s.0 s.1 ++ (rest' ++ behind)) =
    sym (append_assoc (g ∷ after_gate r.0 r.1) rest (gate ∷ more)) ∙ ap (λ (p : List ℕ). p ++ gate ∷ more) (sym split) ∙ same
    ∙ ap (λ (p : List ℕ). p ++ behind) split' ∙ append_assoc (g' ∷ after_gate s.0 s.1) rest' behind in
    let firsts = same_record r s (rest ++ gate ∷ more) (rest' ++ behind) fit.0 fit'.0 (ap (drop 1) flat) in
    let places' = subst (λ (x : NumberedEntry). AreInPlace told (x.0 + 1) (place + 1) others) (sym firsts.0) places.1 in
    let next : place + suc (length records) ≡ place + 1 + length records = omega arith in
    let less = beyond told (r.0 + 1) (place + 1) records others rest rest' more behind gate fit.1 fit'.1 places' goes_on goes_on' some firsts.1
    (λ gate_open. subst (λ (p : ℕ). NoneStands told (end_of_numbers (r.0 + 1) records) p more) next (stops gate_open)) in
    omega (arith, less)

-- behind as many records the same stands
same_behind : (records others : List NumberedEntry) (pages pages' behind behind' : List ℕ) → AreFit records → AreFit others
    → HavePages records pages → HavePages others pages' → length records ≡ length others → pages ++ behind ≡ pages' ++ behind' → behind ≡ behind'
same_behind [] [] pages pages' behind behind' fit fit' whole whole' long same =
    ap (λ (p : List ℕ). p ++ behind) (sym whole) ∙ same ∙ ap (λ (p : List ℕ). p ++ behind') whole'
same_behind [] (s ∷ others) pages pages' behind behind' fit fit' whole whole' long same = absurd (omega (arith, long))
same_behind (r ∷ records) [] pages pages' behind behind' fit fit' whole whole' long same = absurd (omega (arith, long))
same_behind (r ∷ records) (s ∷ others) pages pages' behind behind' fit fit' (g, rest, opened, split, goes_on) (g', rest', opened', split', goes_on') long same =
    let flat : g ∷ (after_gate r.0 r.1 ++ (rest ++ behind)) ≡ g' ∷ (after_gate s.0 s.1 ++ (rest' ++ behind')) =
    sym (append_assoc (g ∷ after_gate r.0 r.1) rest behind) ∙ ap (λ (p : List ℕ). p ++ behind) (sym split) ∙ same
    ∙ ap (λ (p : List ℕ). p ++ behind') split' ∙ append_assoc (g' ∷ after_gate s.0 s.1) rest' behind' in
    let firsts = same_record r s (rest ++ behind) (rest' ++ behind') fit.0 fit'.0 (ap (drop 1) flat) in
    same_behind records others rest rest' behind behind' fit.1 fit'.1 goes_on goes_on' (omega (arith, long)) firsts.1

-- behind the first page stand the records that were read, a gate and more
split_at_gate : (told : SlotHead) (records : List NumberedEntry) (gate : ℕ) (bytes : List ℕ) → AreReadSo told records gate bytes
    → drop 4096 bytes ≡ slice_range bytes 4096 gate ++ slice_index bytes gate ∷ drop (gate + 1) bytes
split_at_gate told records gate bytes read =
    drop_split bytes 4096 gate read.behind ∙ ap (λ (xs : List ℕ). slice_range bytes 4096 gate ++ xs) (drop_more bytes gate 0 read.inside)

stops_at : (told : SlotHead) (records : List NumberedEntry) (gate : ℕ) (bytes : List ℕ) → Lacks told records gate bytes → slice_index bytes gate ≢ 0
    → NoneStands told (end_of_numbers 0 records) (0 + length records) (drop (gate + 1) bytes)
stops_at told records gate bytes (missing closed few) gate_open = absurd (gate_open closed)
stops_at told records gate bytes (broken opened nothing) gate_open =
    subst (λ (p : ℕ). NoneStands told (end_of_numbers 0 records) p (drop (gate + 1) bytes)) (omega arith) nothing

no_more : (told : SlotHead) (bytes : List ℕ) (place other : ℕ) → IsValidHead told → IsDamagedAt told bytes place → IsDamagedAt told bytes other
    → other ≤ place
no_more told bytes place other valid damaged damaged' =
    let less = beyond told 0 0 damaged.records damaged'.records (slice_range bytes 4096 damaged.gate) (slice_range bytes 4096 damaged'.gate)
    (drop (damaged.gate + 1) bytes) (slice_index bytes damaged'.gate ∷ drop (damaged'.gate + 1) bytes) (slice_index bytes damaged.gate)
    (fit_places told 0 0 damaged.records valid damaged.before.places) (fit_places told 0 0 damaged'.records valid damaged'.before.places)
    damaged'.before.places damaged.before.whole damaged'.before.whole (omega arith)
    (sym (split_at_gate told damaged.records damaged.gate bytes damaged.before) ∙ split_at_gate told damaged'.records damaged'.gate bytes damaged'.before)
    (stops_at told damaged.records damaged.gate bytes damaged.lacks) in
    omega (arith, less, damaged.counted, damaged'.counted)

one : (told : SlotHead) (bytes : List ℕ) (place other : ℕ) → IsValidHead told → IsDamagedAt told bytes place → IsDamagedAt told bytes other → place ≡ other
one told bytes place other valid damaged damaged' =
    let less = no_more told bytes place other valid damaged damaged' in
    let least = no_more told bytes other place valid damaged' damaged in
    omega (arith, less, least)

-- the records of a slot are in place
both_in_place : (told : SlotHead) (from place : ℕ) (records others : List NumberedEntry) → AreInPlace told from place records
    → AreInPlace told (end_of_numbers from records) (place + length records) others → AreInPlace told from place (records ++ others)
both_in_place told from place [] others places places' = subst (λ (p : ℕ). AreInPlace told from p others) (omega arith) places'
both_in_place told from place (r ∷ records) others places places' =
    let next : place + suc (length records) ≡ place + 1 + length records = omega arith in (
      places.0,
      both_in_place told (r.0 + 1) (place + 1) records others places.1
          (subst (λ (p : ℕ). AreInPlace told (end_of_numbers (r.0 + 1) records) p others) next places'),
    )

commands_stand : (told : SlotHead) (from place : ℕ) (records : List NumberedEntry) → AreCommands from told.base records
    → place + length records ≤ told.commands → AreInPlace told from place records
commands_stand told from place [] are fits = tt
commands_stand told from place (r ∷ records) (order, below, command, more) fits =
    (as_command (omega (arith, fits)) command order below, commands_stand told (r.0 + 1) (place + 1) records more (omega (arith, fits)))

parts_stand : (told : SlotHead) (from place number : ℕ) (entries : List Entry) → All IsPartEntry entries → told.commands + number ≡ place
    → place + length entries ≤ told.commands + told.parts → AreInPlace told from place (numbered_from number entries)
parts_stand told from place number [] each starts fits = tt
parts_stand told from place number (entry ∷ entries) each starts fits = (
  as_part (omega (arith, starts)) (omega (arith, fits)) (each 0 entry (omega arith)) starts,
  parts_stand told (number + 1) (place + 1) (number + 1) entries (λ k d inside. each (suc k) d (omega (arith, inside))) (omega (arith, starts))
      (omega (arith, fits)),
)

others_stand : (told : SlotHead) (from place number : ℕ) (entries : List Entry) → All IsEntry entries → told.commands + told.parts ≤ place
    → told.commands + told.parts + number ≡ told.base + place → number + length entries ≤ 4294967295
    → AreInPlace told from place (numbered_from number entries)
others_stand told from place number [] each behind starts few = tt
others_stand told from place number (entry ∷ entries) each behind starts few = (
  as_other behind (each 0 entry (omega arith)) starts (omega (arith, few)),
  others_stand told (number + 1) (place + 1) (number + 1) entries (λ k d inside. each (suc k) d (omega (arith, inside))) (omega (arith, behind))
      (omega (arith, starts)) (omega (arith, few)),
)

slot_stands : (slot : Slot) → IsSlot slot → AreInPlace (slot_head slot) 0 0 (records_of slot)
slot_stands slot is =
    let told = slot_head slot in
    let parts = numbered_from 0 slot.parts in
    let size = length-numbered 0 slot.parts in
    let first = commands_stand told 0 0 slot.commands is.commands (omega arith) in
    let second = parts_stand told (end_of_numbers 0 slot.commands) (0 + length slot.commands) 0 slot.parts is.parts (omega arith) (omega arith) in
    let both = both_in_place told 0 0 slot.commands parts first second in
    let long = length-append slot.commands parts in
    both_in_place told 0 0 (slot.commands ++ parts) (numbered_from slot.base slot.rest) both
    (others_stand told (end_of_numbers 0 (slot.commands ++ parts)) (0 + length (slot.commands ++ parts)) slot.base slot.rest is.rest
    (omega (arith, long, size)) (omega (arith, long, size)) is.few)

enough : (slot : Slot) → length slot.commands + length slot.parts ≤ length (records_of slot)
enough slot =
    omega (
      arith,
      length-append (slot.commands ++ numbered_from 0 slot.parts) (numbered_from slot.base slot.rest),
      length-append slot.commands (numbered_from 0 slot.parts),
      length-numbered 0 slot.parts,
    )

lacks_none : (told : SlotHead) (records : List NumberedEntry) (gate : ℕ) (bytes : List ℕ) → told.commands + told.parts ≤ length records
    → slice_index bytes gate ≡ 0 → Lacks told records gate bytes → ⊥
lacks_none told records gate bytes complete closed (missing shut few) = omega (arith, complete, few)
lacks_none told records gate bytes complete closed (broken opened nothing) = opened closed

none : (slot : Slot) (bytes : List ℕ) (place : ℕ) → HoldsSlot slot bytes → IsDamagedAt (slot_head slot) bytes place → ⊥
none slot bytes place holds damaged =
    let told = slot_head slot in
    let valid = holds.whole.proper.valid in
    let page = slot_header told in
    let pages = holds.whole.pages in
    let held = records_of slot in
    let split : bytes ≡ page ++ (pages ++ 0 ∷ holds.closed.rest) =
    holds.closed.split ∙ ap (λ (xs : List ℕ). xs ++ 0 ∷ holds.closed.rest) holds.whole.split ∙ append_assoc page pages (0 ∷ holds.closed.rest) in
    let behind : drop 4096 bytes ≡ pages ++ 0 ∷ holds.closed.rest =
    ap (λ (xs : List ℕ). drop 4096 xs) split ∙ drop_at page (pages ++ 0 ∷ holds.closed.rest) 4096 (length-slot_header told) in
    let read = split_at_gate told damaged.records damaged.gate bytes damaged.before in
    let places = slot_stands slot holds.whole.proper in
    let fit = fit_places told 0 0 held valid places in
    let fit' = fit_places told 0 0 damaged.records valid damaged.before.places in
    let less = beyond told 0 0 held damaged.records pages (slice_range bytes 4096 damaged.gate) holds.closed.rest
    (slice_index bytes damaged.gate ∷ drop (damaged.gate + 1) bytes) 0 fit fit' damaged.before.places holds.whole.whole damaged.before.whole
    (omega arith) (sym behind ∙ read) (λ gate_open. absurd (gate_open refl)) in
    let least = beyond told 0 0 damaged.records held (slice_range bytes 4096 damaged.gate) pages (drop (damaged.gate + 1) bytes)
    (0 ∷ holds.closed.rest) (slice_index bytes damaged.gate) fit' fit places damaged.before.whole holds.whole.whole
    (omega arith) (sym read ∙ behind) (stops_at told damaged.records damaged.gate bytes damaged.lacks) in
    let same = same_behind damaged.records held (slice_range bytes 4096 damaged.gate) pages _ _ fit' fit damaged.before.whole holds.whole.whole
    (omega (arith, less, least)) (sym read ∙ behind) in
    lacks_none told damaged.records damaged.gate bytes (omega (arith, enough slot, least)) (ap (λ (xs : List ℕ). get_or xs 0 0) same) damaged.lacks

pub places_are_exact : PlacesAreExact
places_are_exact = record { none = none; one = one }
