-- Records behind gates, each under a number of its own.
use Rattle.std.specs.Prelude.{◌≡◌, ◌≢◌, ℕ, suc, ◌+◌, ◌≤◌, All, List, [], ◌∷◌, ◌++◌, length, drop, refl}
use Rattle.std.specs.Int.{w32, w64, to_le_bytes}
use Rattle.std.proofs.Common.{arith, sym, ap, ◌∙◌, get_or}
use Rattle.std.proofs.lemmas.List.{append_assoc, append-nil}
use Rattle.ide_journal.specs.Format.{Entry, zeros, padding, after_gate}
use Rattle.ide_journal.proofs.OneList.{same_front}
use Rattle.ide_slots.specs.Slot.{AreCommands, HavePages, NumberedEntry, numbered_from}
use Rattle.ide_slots.proofs.Heads.{same_long, same_short}

-- its number and the length of its body fit
pub record IsFit (r : NumberedEntry) : Type 0 where
  pub low : r.0 ≤ 4294967295
  pub short : length r.1.1 ≤ 4194304

abbrev pub AreFit : List NumberedEntry → Type 0
AreFit [] = Unit {0}
AreFit (r ∷ records) = IsFit r × AreFit records

pub fit_both : (records others : List NumberedEntry) → AreFit records → AreFit others → AreFit (records ++ others)
fit_both [] others fit fit' = fit'
fit_both (r ∷ records) others fit fit' = (fit.0, fit_both records others fit.1 fit')

pub fit_commands : (from base : ℕ) (records : List NumberedEntry) → base ≤ 4294967295 → AreCommands from base records → AreFit records
fit_commands from base [] low are = tt
fit_commands from base (r ∷ records) low (least, below, command, more) =
    (record { low = omega (arith, below, low); short = command.short }, fit_commands (r.0 + 1) base records low more)

pub fit_numbered : (P : Entry → Type 0) → ((entry : Entry) → P entry → length entry.1 ≤ 4194304) → (number : ℕ) (entries : List Entry)
    → number + length entries ≤ 4294967295 → All P entries → AreFit (numbered_from number entries)
fit_numbered P short number [] few each = tt
fit_numbered P short number (entry ∷ entries) few each = (
  record { low = omega (arith, few); short = short entry (each 0 entry (omega arith)) },
  fit_numbered P short (number + 1) entries (omega (arith, few)) (λ k d inside. each (suc k) d (omega (arith, inside))),
)

five : (a b c d e us : List ℕ) → a ++ b ++ c ++ d ++ e ++ us ≡ a ++ (b ++ (c ++ (d ++ (e ++ us))))
five a b c d e us = simp append_assoc

-- records at the front of equal lists are equal, and so is the rest
pub same_record : (r s : NumberedEntry) (us vs : List ℕ) → IsFit r → IsFit s
    → after_gate r.0 r.1 ++ us ≡ after_gate s.0 s.1 ++ vs → (r ≡ s) × (us ≡ vs)
unfolding after_gate
same_record r s us vs fit fit' same =
    let filling : List ℕ = zeros (padding (length r.1.1)) in
    let filling' : List ℕ = zeros (padding (length s.1.1)) in
    let flat = sym (five (r.1.0 ∷ []) (to_le_bytes w64 r.0) (to_le_bytes w32 (length r.1.1)) r.1.1 filling us) ∙ same
    ∙ five (s.1.0 ∷ []) (to_le_bytes w64 s.0) (to_le_bytes w32 (length s.1.1)) s.1.1 filling' vs in
    let kinds = same_front (r.1.0 ∷ []) (s.1.0 ∷ []) _ _ refl flat in
    let numbers = same_front (to_le_bytes w64 r.0) (to_le_bytes w64 s.0) _ _ refl kinds.1 in
    let lengths = same_front (to_le_bytes w32 (length r.1.1)) (to_le_bytes w32 (length s.1.1)) _ _ refl numbers.1 in
    let length_is = same_short (length r.1.1) (length s.1.1) (omega (arith, fit.short)) (omega (arith, fit'.short)) lengths.0 in
    let bodies = same_front r.1.1 s.1.1 _ _ length_is lengths.1 in
    let rests = same_front filling filling' us vs (ap (λ (n : ℕ). length (zeros (padding n))) length_is) bodies.1 in
    let kind_is : r.1.0 ≡ s.1.0 = ap (λ (xs : List ℕ). get_or xs 0 0) kinds.0 in
    let number_is : r.0 ≡ s.0 = same_long r.0 s.0 fit.low fit'.low numbers.0 in (
      ap (λ (n : ℕ). (n, r.1)) number_is ∙ ap (λ (k : ℕ). (s.0, (k, r.1.1))) kind_is ∙ ap (λ (b : List ℕ). (s.0, (s.1.0, b))) bodies.0,
      rests.1,
    )

-- pages up to a closed gate are those of one list of records
pub same_records : (records others : List NumberedEntry) (pages pages' rest rest' : List ℕ) → AreFit records → AreFit others
    → HavePages records pages → HavePages others pages' → pages ++ 0 ∷ rest ≡ pages' ++ 0 ∷ rest' → records ≡ others
same_records [] [] pages pages' rest rest' fit fit' whole whole' same = refl
same_records [] (s ∷ others) pages pages' rest rest' fit fit' whole (gate, more, opened, split, goes_on) same =
    let gates : 0 ≡ gate =
    ap (λ (xs : List ℕ). get_or xs 0 0) (ap (λ (p : List ℕ). p ++ 0 ∷ rest) (sym whole) ∙ same ∙ ap (λ (p : List ℕ). p ++ 0 ∷ rest') split) in
    absurd (opened (sym gates))
same_records (r ∷ records) [] pages pages' rest rest' fit fit' (gate, more, opened, split, goes_on) whole same =
    let gates : gate ≡ 0 =
    ap (λ (xs : List ℕ). get_or xs 0 0) (ap (λ (p : List ℕ). p ++ 0 ∷ rest) (sym split) ∙ same ∙ ap (λ (p : List ℕ). p ++ 0 ∷ rest') whole) in
    absurd (opened gates)
same_records (r ∷ records) (s ∷ others) pages pages' rest rest' fit fit' (gate, more, opened, split, goes_on) (gate', more', opened', split', goes_on') same =
    let both : (gate ∷ after_gate r.0 r.1 ++ more) ++ 0 ∷ rest ≡ (gate' ∷ after_gate s.0 s.1 ++ more') ++ 0 ∷ rest' =
    ap (λ (p : List ℕ). p ++ 0 ∷ rest) (sym split) ∙ same ∙ ap (λ (p : List ℕ). p ++ 0 ∷ rest') split' in
    let behind = ap (drop 1) both in
    let firsts = same_record r s (more ++ 0 ∷ rest) (more' ++ 0 ∷ rest') fit.0 fit'.0
    (sym (append_assoc (after_gate r.0 r.1) more (0 ∷ rest)) ∙ behind ∙ append_assoc (after_gate s.0 s.1) more' (0 ∷ rest')) in
    let others_are = same_records records others more more' rest rest' fit.1 fit'.1 goes_on goes_on' firsts.1 in
    ap (λ (x : NumberedEntry). x ∷ records) firsts.0 ∙ ap (λ (xs : List NumberedEntry). s ∷ xs) others_are

-- one more record behind the others
pub pages_more : (records : List NumberedEntry) (r : NumberedEntry) (pages : List ℕ) (gate : ℕ) → HavePages records pages → gate ≢ 0
    → HavePages (records ++ r ∷ []) (pages ++ gate ∷ after_gate r.0 r.1)
pages_more [] r pages gate whole opened =
    (gate, [], opened, ap (λ (p : List ℕ). p ++ gate ∷ after_gate r.0 r.1) whole ∙ sym (append-nil (gate ∷ after_gate r.0 r.1)), refl)
pages_more (q ∷ records) r pages gate (g, rest, o, split, whole) opened = (
  g,
  rest ++ gate ∷ after_gate r.0 r.1,
  o,
  ap (λ (p : List ℕ). p ++ gate ∷ after_gate r.0 r.1) split ∙ append_assoc (g ∷ after_gate q.0 q.1) rest (gate ∷ after_gate r.0 r.1),
  pages_more records r rest gate whole opened,
)

pub length-numbered : (number : ℕ) (entries : List Entry) → length (numbered_from number entries) ≡ length entries
length-numbered number [] = refl
length-numbered number (entry ∷ entries) = ap suc (length-numbered (number + 1) entries)

pub same_numbered : (number : ℕ) (entries others : List Entry) → numbered_from number entries ≡ numbered_from number others → entries ≡ others
same_numbered number [] [] same = refl
same_numbered number [] (other ∷ others) same = absurd (omega (arith, ap length same))
same_numbered number (entry ∷ entries) [] same = absurd (omega (arith, ap length same))
same_numbered number (entry ∷ entries) (other ∷ others) same =
    let one : NumberedEntry = (number, entry) in
    let two : NumberedEntry = (number, other) in
    let first : one ≡ two = cc in
    let more : numbered_from (number + 1) entries ≡ numbered_from (number + 1) others = cc in
    ap (λ (r : NumberedEntry). r.1 ∷ entries) first ∙ ap (λ (es : List Entry). other ∷ es) (same_numbered (number + 1) entries others more)

-- fronts of one length of equal lists are equal, and so is the rest
pub split_same : (xs ys us vs : List NumberedEntry) → length xs ≡ length ys → xs ++ us ≡ ys ++ vs → (xs ≡ ys) × (us ≡ vs)
split_same [] [] us vs long same = (refl, same)
split_same [] (y ∷ ys) us vs long same = absurd (omega (arith, long))
split_same (x ∷ xs) [] us vs long same = absurd (omega (arith, long))
split_same (x ∷ xs) (y ∷ ys) us vs long same =
    let first : x ≡ y = cc in
    let others : xs ++ us ≡ ys ++ vs = cc in
    let rest = split_same xs ys us vs (omega (arith, long)) others in
    (ap (λ (z : NumberedEntry). z ∷ xs) first ∙ ap (λ (zs : List NumberedEntry). y ∷ zs) rest.0, rest.1)
