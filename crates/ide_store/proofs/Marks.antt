-- Marks: the image of the first records is that after the steps that were done when the last of them was sealed.
use Rattle.std.proofs.Common.{◌≡◌, ◌≤◌, ◌<◌, ℕ, zero, suc, List, [], ◌∷◌, ◌++◌, length, take, refl, sym, subst, arith, inl, inr}
use Rattle.std.proofs.lemmas.Bool.{cases_lt}
use Rattle.std.proofs.lemmas.List.{length-append, length-take, length-take-le, map-append, take-append-le, take-take, take_all}
use Rattle.std.proofs.lemmas.List.Sums.{fold-append}
use Rattle.ide_store.specs.World.{Rules, Sealed, contents, image_after, last_mark, IsFolded, LeadTo}

pub take_more : {X : Type 0} (i j : ℕ) (xs : List X) → j ≤ i → take i (take j xs) ≡ take j xs
take_more i j xs le = take_all i (take j xs) (let short = length-take j xs in omega arith)

abbrev pub mark_at : {R : Type 0} → List (Sealed R) → ℕ → ℕ
mark_at sealed n = last_mark (take n sealed)

pub record AreMarks {Image Step R : Type 0} (rules : Rules Image Step R) (history : List Step) (sealed : List (Sealed R)) : Type 0 where
  pub images : (n : ℕ) → IsFolded rules (contents (take n sealed)) (image_after rules (take (mark_at sealed n) history))
  pub rising : (n k : ℕ) → n ≤ k → mark_at sealed n ≤ mark_at sealed k
  pub inside : (n : ℕ) → mark_at sealed n ≤ length history

-- no record
abbrev nothing : (R : Type 0) → List (Sealed R)
nothing R = []

no_mark : {R : Type 0} (n : ℕ) → take n (nothing R) ≡ nothing R
no_mark zero = refl
no_mark (suc n) = refl

pub no_marks : {Image Step R : Type 0} (rules : Rules Image Step R) → AreMarks {R = R} rules [] []
no_marks {R = R} rules = record {
  images = λ n. rw (no_mark {R = R} n) refl;
  rising = λ n k le. rw (no_mark {R = R} n, no_mark {R = R} k) (omega arith);
  inside = λ n. rw (no_mark {R = R} n) (omega arith);
}

-- one more step
pub marks_stepped : {Image Step R : Type 0} (rules : Rules Image Step R) (history : List Step) (sealed : List (Sealed R)) (s : Step)
    → AreMarks rules history sealed → AreMarks rules (history ++ s ∷ []) sealed
marks_stepped rules history sealed s are = record {
  images = λ n. rw (take-append-le (mark_at sealed n) history (s ∷ []) (are.inside n)) (are.images n);
  rising = are.rising;
  inside = λ n. let before = are.inside n in let longer = length-append history (s ∷ []) in omega arith;
}

-- which marks a record leaves that is sealed now
abbrev pub pushed : {R : Type 0} → List (Sealed R) → R → ℕ → List (Sealed R)
pushed sealed r mark = sealed ++ record { content = r; mark = mark } ∷ []

pub mark_before : {R : Type 0} (sealed : List (Sealed R)) (r : R) (mark n : ℕ) → n ≤ length sealed
    → take n (pushed sealed r mark) ≡ take n sealed
mark_before sealed r mark n le = take-append-le n sealed _ le

pub all_pushed : {R : Type 0} (sealed : List (Sealed R)) (r : R) (mark n : ℕ) → length sealed < n
    → take n (pushed sealed r mark) ≡ pushed sealed r mark
all_pushed sealed r mark n lt =
    take_all n (pushed sealed r mark) (let longer = length-append sealed (record { content = r; mark = mark } ∷ []) in omega arith)

mark_pushed : {R : Type 0} (sealed : List (Sealed R)) (r : R) (mark : ℕ) → last_mark (pushed sealed r mark) ≡ mark
mark_pushed sealed r mark = fold-append _ 0 sealed _

-- records and one more
pub lead_pushed : {Image Step R : Type 0} (rules : Rules Image Step R) (records : List R) (r : R) (before between now : Image)
    → LeadTo rules records before between → rules.Leads r between now → LeadTo rules (records ++ r ∷ []) before now
lead_pushed rules [] r before between now same leads = (now, subst (λ i. rules.Leads r i now) (sym same) leads, refl)
lead_pushed rules (x ∷ records) r before between now (first, leads_first, rest) leads =
    (first, leads_first, lead_pushed rules records r first between now rest leads)

pub folded_pushed : {Image Step R : Type 0} (rules : Rules Image Step R) (sealed : List (Sealed R)) (r : R) (mark : ℕ) (base now : Image)
    → IsFolded rules (contents sealed) base → rules.Leads r base now → IsFolded rules (contents (pushed sealed r mark)) now
folded_pushed rules sealed r mark base now folded leads =
    rw (map-append (λ (s : Sealed _). s.content) sealed (record { content = r; mark = mark } ∷ []))
    (lead_pushed rules (contents sealed) r rules.empty base now folded leads)

-- one more record, which makes the image that of the history
pub marks_sealed : {Image Step R : Type 0} (rules : Rules Image Step R) (history : List Step) (sealed : List (Sealed R)) (r : R) (base : Image)
    → AreMarks rules history sealed → IsFolded rules (contents sealed) base → rules.Leads r base (image_after rules history)
    → AreMarks rules history (pushed sealed r (length history))
marks_sealed {R = R} rules history sealed r base are folded leads = record { images = images; rising = rising; inside = inside }
  where
    now : List (Sealed R)
    now = pushed sealed r (length history)

    images : (n : ℕ) → IsFolded rules (contents (take n now)) (image_after rules (take (mark_at now n) history))
    images n = elim (cases_lt (length sealed) n) [
      | inl over ↦ rw (all_pushed sealed r (length history) n over, mark_pushed sealed r (length history), take_all (length history) history (omega arith))
          (folded_pushed rules sealed r (length history) base (image_after rules history) folded leads)
      | inr under ↦ rw (mark_before sealed r (length history) n under) (are.images n)
    ]

    inside : (n : ℕ) → mark_at now n ≤ length history
    inside n = elim (cases_lt (length sealed) n) [
      | inl over ↦ rw (all_pushed sealed r (length history) n over, mark_pushed sealed r (length history)) (omega arith)
      | inr under ↦ rw (mark_before sealed r (length history) n under) (are.inside n)
    ]

    rising : (n k : ℕ) → n ≤ k → mark_at now n ≤ mark_at now k
    rising n k le = elim (cases_lt (length sealed) k) [
      | inl over ↦ rw (all_pushed sealed r (length history) k over, mark_pushed sealed r (length history)) (inside n)
      | inr under ↦ rw (mark_before sealed r (length history) k under, mark_before sealed r (length history) n (omega arith)) (are.rising n k le)
    ]

cut_below : {R : Type 0} (sealed : List (Sealed R)) (m : ℕ) → ((n k : ℕ) → n ≤ k → mark_at sealed n ≤ mark_at sealed k)
    → (n : ℕ) → mark_at (take m sealed) n ≤ mark_at sealed m
cut_below sealed m rising n = elim (cases_lt m n) [
  | inl over ↦ rw (take_more n m sealed (omega arith)) (omega arith)
  | inr under ↦ rw (take-take n m sealed under) (rising n m under)
]

-- as many records as an opening found, and the history up to the last of them
pub marks_cut : {Image Step R : Type 0} (rules : Rules Image Step R) (history : List Step) (sealed : List (Sealed R)) (m : ℕ)
    → AreMarks rules history sealed → AreMarks rules (take (mark_at sealed m) history) (take m sealed)
marks_cut rules history sealed m are = record { images = images; rising = rising; inside = inside }
  where
    images : (n : ℕ) → IsFolded rules (contents (take n (take m sealed))) (image_after rules (take (mark_at (take m sealed) n) (take (mark_at sealed m) history)))
    images n = elim (cases_lt m n) [
      | inl over ↦ rw (take_more n m sealed (omega arith), take-take (mark_at sealed m) (mark_at sealed m) history (omega arith)) (are.images m)
      | inr under ↦ rw (take-take n m sealed under, take-take (mark_at sealed n) (mark_at sealed m) history (are.rising n m under)) (are.images n)
    ]

    rising : (n k : ℕ) → n ≤ k → mark_at (take m sealed) n ≤ mark_at (take m sealed) k
    rising n k le = elim (cases_lt m k) [
      | inl over ↦ rw (take_more k m sealed (omega arith)) (cut_below sealed m are.rising n)
      | inr under ↦ rw (take-take k m sealed under, take-take n m sealed (omega arith)) (are.rising n k le)
    ]

    inside : (n : ℕ) → mark_at (take m sealed) n ≤ length (take (mark_at sealed m) history)
    inside n = rw (length-take-le (mark_at sealed m) history (are.inside m)) (cut_below sealed m are.rising n)
