-- Rows, which list facts with their pages, ascending by fact: where a fact stands in one, what is found there, and one fact more.
use Rattle.std.proofs.Common.{◌≡◌, ◌≢◌, ℕ, zero, suc, ◌<◌, ◌≤◌, ◌^◌, refl, sym, ap, subst, ◌∙◌, arith, List, [], ◌∷◌, length, get_or, None, Some, true, false, cond, nat_lt}
use Rattle.std.specs.Prelude.{slice_get}
use Rattle.std.specs.BTreeMap.{is_at}
use Rattle.std.specs.Cmp.{eq_by_cmp_equiv, nat_cmp_total, unsigned_tied}
use Rattle.std.specs.List.{AllByRecursion, AllWithin, insert}
use Rattle.std.specs.List.Sorted.{IsNonDecreasingBy, IsStrictlySortedBy}
use Rattle.std.specs.Map.{keys_of}
use Rattle.std.specs.Ordering.{nat_cmp}
use Rattle.std.specs.declared.cmp.Ordering.TheVariants.{Less, Greater}
use Rattle.std.proofs.lemmas.Bool.Decides.{nat_tests}
use Rattle.std.proofs.lemmas.List.{get_or-map}
use Rattle.std.proofs.lemmas.Map.{NonePasses, lookup-insert, none_passes_from_lookup}
use Rattle.std.proofs.lemmas.Map.Entries.{length-keys_of, lookup_at_gap, lookup_from_place}
use Rattle.std.proofs.lemmas.Map.Keys.{IsDistinct-from_sorted, below_from_sorted, non_decreasing_from_sorted}
use Rattle.std.proofs.lemmas.Option.{get_or_from_slice_get, slice_get_read, slice_get_within}
use Rattle.ide_pages.specs.Rows.{IsPlace, IsRow, Lists, page_in}

-- ---- the place of a fact

-- a row has at an index the fact of its entry there
fact-at : (row : List (ℕ × ℕ)) (k : ℕ) (d : ℕ × ℕ) → k < length row → get_or (keys_of row) k 0 ≡ (get_or row k d).0
fact-at row k d l = get_or-map (λ (e : ℕ × ℕ). e.0) row k d 0 l

lower : (a b f : ℕ) → a ≡ b → nat_lt b f ≡ true → a < f
lower a b f e t = grind (arith, nat_tests)

not-lower : (a b f : ℕ) → a ≡ b → nat_lt b f ≡ false → f ≤ a
not-lower a b f e t = grind (arith, nat_tests)

no-higher : (a b x y : ℕ) → a ≡ x → b ≡ y → a ≤ b → x ≤ y
no-higher a b x y own other l = omega arith

-- the facts do not fall
pub rising : (row : List (ℕ × ℕ)) → IsRow row → IsNonDecreasingBy (λ (e : ℕ × ℕ). e.0) row
rising row is i j d l m =
    let long : length (keys_of row) ≡ length row = length-keys_of row in
    no-higher _ _ _ _ (fact-at row i d (omega arith)) (fact-at row j d m)
    (non_decreasing_from_sorted (keys_of row) is.ascending i j 0 l (omega arith))

-- the place is where the lower facts end
pub place-parted : (fact : ℕ) (row : List (ℕ × ℕ)) (i : ℕ) → i ≤ length row
    → AllWithin (λ (e : ℕ × ℕ). nat_lt e.0 fact ≡ true) row 0 i → AllWithin (λ (e : ℕ × ℕ). nat_lt e.0 fact ≡ false) row i (length row)
    → IsPlace fact row i
place-parted fact row i bound below above = record {
  bound = bound;
  below = λ k l. lower _ _ fact (fact-at row k (0, 0) (omega arith)) (below k (0, 0) (omega arith) l);
  above = λ k l m. not-lower _ _ fact (fact-at row k (0, 0) m) (above k (0, 0) l m);
}

-- and where the fact stands
pub place-here : (fact : ℕ) (row : List (ℕ × ℕ)) (i : ℕ) (x : ℕ × ℕ) → IsRow row → i < length row → x ≡ get_or row i x → x.0 ≡ fact
    → IsPlace fact row i
place-here fact row i x is within own same =
    let here : get_or (keys_of row) i 0 ≡ fact = fact-at row i x within ∙ sym (ap (λ (e : ℕ × ℕ). e.0) own) ∙ same in
    let long : length (keys_of row) ≡ length row = length-keys_of row in
    record {
      bound = omega arith;
      below = λ k l. subst (λ n. get_or (keys_of row) k 0 < n) here (below_from_sorted (keys_of row) k i 0 is.ascending l (omega arith));
      above = λ k l m. subst (λ n. n ≤ get_or (keys_of row) k 0) here (non_decreasing_from_sorted (keys_of row) is.ascending i k 0 l (omega arith));
    }

-- ---- what is found at the place

-- the page of the fact that stands there
pub page-here : (fact : ℕ) (row : List (ℕ × ℕ)) (i : ℕ) (x : ℕ × ℕ) → IsRow row → i < length row → x ≡ get_or row i x → x.0 ≡ fact
    → page_in row fact ≡ Some x.1
page-here fact row i x is within own same =
    ap (λ f. page_in row f) (sym same)
    ∙ lookup_from_place (eq_by_cmp_equiv nat_cmp_total) row i x.0 x.1 (IsDistinct-from_sorted nat_cmp (keys_of row) is.ascending)
    (slice_get_read row (length row) i x refl within own)

is-below : (a b f : ℕ) → a ≡ b → a < f → nat_cmp f b ≡ Greater
is-below a b f e l = grind (arith, nat_tests)

is-above : (a b f : ℕ) → a ≡ b → f ≤ a → b ≢ f → nat_cmp f b ≡ Less
is-above a b f e l other = grind (arith, nat_tests)

-- none, if the fact does not stand there
page-absent : (fact : ℕ) (row : List (ℕ × ℕ)) (i : ℕ) → IsRow row → IsPlace fact row i
    → ((e : ℕ × ℕ) → slice_get row i ≡ Some e → e.0 ≢ fact) → page_in row fact ≡ None
page-absent fact row i is place other =
    let own = λ (j : ℕ) (e : ℕ × ℕ) (s : slice_get row j ≡ Some e).
    fact-at row j e (slice_get_within row j e s) ∙ ap (λ (x : ℕ × ℕ). x.0) (get_or_from_slice_get row j e e s) in
    lookup_at_gap nat_cmp_total fact row i is.ascending
    (λ j e l s. is-below _ _ fact (own j e s) (place.below j l))
    (λ e s. is-above _ _ fact (own i e s) (place.above i (omega arith) (slice_get_within row i e s)) (other e s))

-- the place is behind the last fact
pub page-past : (fact : ℕ) (row : List (ℕ × ℕ)) (i : ℕ) → IsRow row → IsPlace fact row i → length row ≤ i → page_in row fact ≡ None
page-past fact row i is place past = page-absent fact row i is place (λ e s _. omega (arith, slice_get_within row i e s))

-- or another fact stands there
pub page-other : (fact : ℕ) (row : List (ℕ × ℕ)) (i : ℕ) (x : ℕ × ℕ) → IsRow row → IsPlace fact row i → ((d : ℕ × ℕ) → x ≡ get_or row i d)
    → x.0 ≢ fact → page_in row fact ≡ None
page-other fact row i x is place own other =
    page-absent fact row i is place (λ e s same. other (ap (λ (y : ℕ × ℕ). y.0) (own e ∙ get_or_from_slice_get row i e e s) ∙ same))

-- ---- one fact more

-- what holds of each fact and of the new one holds with it among them
all-insert : (P : ℕ → Type 0) (row : List (ℕ × ℕ)) (i : ℕ) (x : ℕ × ℕ) → P x.0 → AllByRecursion P (keys_of row)
    → AllByRecursion P (keys_of (insert row i x))
all-insert P row zero x own all = (own, all)
all-insert P [] (suc i) x own all = (own, tt)
all-insert P (e ∷ es) (suc i) x own all = (all.0, all-insert P es i x own all.1)

-- a fact below the first one is below each
below-all : (fact first : ℕ) (facts : List ℕ) → nat_cmp fact first ≡ Less → AllByRecursion (λ d. nat_cmp first d ≡ Less) facts
    → AllByRecursion (λ d. nat_cmp fact d ≡ Less) facts
below-all fact first [] less all = tt
below-all fact first (d ∷ ds) less all = (nat_cmp_total.trans fact first d less all.0, below-all fact first ds less all.1)

is-less : (a b : ℕ) → a < b → nat_cmp a b ≡ Less
is-less a b l = grind (arith, nat_tests)

is-other : (a b : ℕ) → a ≤ b → is_at (nat_cmp a) b ≡ false → nat_cmp a b ≡ Less
is-other a b l apart = grind (arith, nat_tests)

-- the place among the entries behind the first one
place-behind : (fact : ℕ) (e : ℕ × ℕ) (es : List (ℕ × ℕ)) (i : ℕ) → IsPlace fact (e ∷ es) (suc i) → IsPlace fact es i
place-behind fact e es i place =
    let bound : suc i ≤ length (e ∷ es) = place.bound in
    record {
      bound = omega arith;
      below = λ k l. place.below (suc k) (omega arith);
      above = λ k l m. place.above (suc k) (omega arith) (omega arith);
    }

-- the facts ascend with the new one at its place
ascending-insert : (fact page : ℕ) (row : List (ℕ × ℕ)) (i : ℕ) → IsStrictlySortedBy nat_cmp (keys_of row) → IsPlace fact row i
    → NonePasses (is_at (nat_cmp fact)) row → IsStrictlySortedBy nat_cmp (keys_of (insert row i (fact, page)))
unfolding IsStrictlySortedBy
ascending-insert fact page [] zero up place apart = (tt, tt)
ascending-insert fact page [] (suc i) up place apart = (tt, tt)
ascending-insert fact page (e ∷ es) zero up place apart =
    let less : nat_cmp fact e.0 ≡ Less = is-other fact e.0 (place.above 0 (omega arith) (omega arith)) apart.0 in
    ((less, below-all fact e.0 (keys_of es) less up.0), up)
ascending-insert fact page (e ∷ es) (suc i) up place apart = (
  all-insert (λ d. nat_cmp e.0 d ≡ Less) es i (fact, page) (is-less e.0 fact (place.below 0 (omega arith))) up.0,
  ascending-insert fact page es i up.1 (place-behind fact e es i place) apart.1,
)

-- it is a row
pub row-insert : (fact page : ℕ) (row : List (ℕ × ℕ)) (i : ℕ) → fact < 2 ^ 16 → IsRow row → IsPlace fact row i → page_in row fact ≡ None
    → IsRow (insert row i (fact, page))
row-insert fact page row i small is place absent = record {
  ascending = ascending-insert fact page row i is.ascending place (none_passes_from_lookup (is_at (nat_cmp fact)) row absent);
  within = all-insert (λ d. d < 2 ^ 16) row i (fact, page) small is.within;
}

-- the fact has its page, and each other one what it had
pub lists-insert : (fact page : ℕ) (row : List (ℕ × ℕ)) (i : ℕ) → page_in row fact ≡ None → Lists fact page row (insert row i (fact, page))
lists-insert fact page row i absent d =
    lookup-insert (eq_by_cmp_equiv nat_cmp_total) fact page d row i (none_passes_from_lookup (is_at (nat_cmp fact)) row absent)
    ∙ ap (λ b. cond b (Some page) (page_in row d)) (unsigned_tied fact d)

-- a row with no fact
pub row-empty : IsRow []
unfolding IsStrictlySortedBy
row-empty = record { ascending = tt; within = tt }
