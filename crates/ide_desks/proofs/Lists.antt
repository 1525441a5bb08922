-- Lists of records and their marks.
use Rattle.std.proofs.Common.{◌≡◌, ◌∙◌, ◌-◌, ◌<◌, ◌≤◌, ◌++◌, ℕ, zero, suc, List, [], ◌∷◌, Some, length, drop, map, replicate, take, refl, ap, sym, arith}
use Rattle.std.specs.Prelude.{option_map, slice_get}
use Rattle.std.proofs.lemmas.Option.{same_Some, slice_get-map}
use Rattle.std.proofs.lemmas.List.{drop-append-le, take-append-le, take-map, take_all, length-append, length-map, map-append}
use mathlib.Core.List.{IsPrefix}
use Rattle.ide_board.specs.Records.{Marked, unmarked}
use Rattle.ide_journal.specs.Format.{Entry}
use Rattle.ide_desks.specs.Desks.{last_but_one, last_entry}
use Rattle.ide_store.specs.Versioned.{VersionedEntry}
use Rattle.ide_desks.specs.Keeping.{records_in, unknown}

-- the record of a marked one
abbrev pub record_of : Marked VersionedEntry → VersionedEntry
record_of m = m.0

-- ---- the last of some records, and the last but one
pub last_pushed : (xs : List Entry) (x : Entry) → last_entry (xs ++ x ∷ []) ≡ x
last_pushed [] x = refl
last_pushed (y ∷ []) x = refl
last_pushed (y ∷ z ∷ xs) x = last_pushed (z ∷ xs) x

pub last_of_two : (xs : List Entry) (x y : Entry) → last_entry (xs ++ x ∷ y ∷ []) ≡ y
last_of_two [] x y = refl
last_of_two (z ∷ []) x y = refl
last_of_two (z ∷ w ∷ xs) x y = last_of_two (w ∷ xs) x y

pub last_but_pushed : (xs : List Entry) (x y : Entry) → last_but_one (xs ++ x ∷ y ∷ []) ≡ x
last_but_pushed [] x y = refl
last_but_pushed (z ∷ []) x y = refl
last_but_pushed (z ∷ w ∷ []) x y = refl
last_but_pushed (z ∷ w ∷ v ∷ xs) x y = last_but_pushed (w ∷ v ∷ xs) x y

-- ---- the records that a board knows, behind those that it began with
pub records_count : (first : List VersionedEntry) (sealed : List (Marked VersionedEntry)) → length first ≤ length sealed
    → length (records_in first sealed) ≡ length sealed
records_count [] sealed few = length-map sealed record_of
records_count (x ∷ first) [] few = absurd (omega (arith, few))
records_count (x ∷ first) (m ∷ sealed) few = ap suc (records_count first sealed (omega (arith, few)))

-- more are sealed
records_more : (first : List VersionedEntry) (sealed marks : List (Marked VersionedEntry)) → length first ≤ length sealed
    → records_in first (sealed ++ marks) ≡ records_in first sealed ++ map record_of marks
records_more [] sealed marks few = map-append record_of sealed marks
records_more (x ∷ first) [] marks few = absurd (omega (arith, few))
records_more (x ∷ first) (n ∷ sealed) marks few = ap (λ (rs : List VersionedEntry). x ∷ rs) (records_more first sealed marks (omega (arith, few)))

-- so many of them
pub records_take : (first : List VersionedEntry) (sealed : List (Marked VersionedEntry)) (n : ℕ) → length first ≤ n → n ≤ length sealed
    → records_in first (take n sealed) ≡ take n (records_in first sealed)
records_take [] sealed n some few = sym (take-map record_of n sealed)
records_take (x ∷ first) [] n some few = absurd (omega (arith, some, few))
records_take (x ∷ first) (m ∷ sealed) zero some few = absurd (omega (arith, some))
records_take (x ∷ first) (m ∷ sealed) (suc n) some few =
    ap (λ (rs : List VersionedEntry). x ∷ rs) (records_take first sealed n (omega (arith, some)) (omega (arith, few)))

-- and each behind the first
pub records_get : (first : List VersionedEntry) (sealed : List (Marked VersionedEntry)) (i : ℕ) → length first ≤ length sealed → length first ≤ i
    → slice_get (records_in first sealed) i ≡ option_map record_of (slice_get sealed i)
records_get [] sealed i few behind = slice_get-map record_of sealed i
records_get (x ∷ first) [] i few behind = absurd (omega (arith, few))
records_get (x ∷ first) (m ∷ sealed) zero few behind = absurd (omega (arith, behind))
records_get (x ∷ first) (m ∷ sealed) (suc i) few behind = records_get first sealed i (omega (arith, few)) (omega (arith, behind))

-- those that were handed over are the same, and they wait behind the others
pub handed_more : (first : List VersionedEntry) (sealed marks : List (Marked VersionedEntry)) (handed : ℕ) → length first ≤ length sealed
    → handed ≤ length sealed → take handed (records_in first (sealed ++ marks)) ≡ take handed (records_in first sealed)
handed_more first sealed marks handed some few =
    let count = records_count first sealed some in
    ap (take handed) (records_more first sealed marks some)
    ∙ take-append-le handed (records_in first sealed) (map record_of marks) (omega (arith, few, count))

pub waiting_more : (first : List VersionedEntry) (sealed marks : List (Marked VersionedEntry)) (handed : ℕ) → length first ≤ length sealed
    → handed ≤ length sealed → drop handed (records_in first (sealed ++ marks)) ≡ drop handed (records_in first sealed) ++ map record_of marks
waiting_more first sealed marks handed some few =
    let count = records_count first sealed some in
    ap (drop handed) (records_more first sealed marks some)
    ∙ drop-append-le handed (records_in first sealed) (map record_of marks) (omega (arith, few, count))

-- ---- beginnings of lists
pub get_take : {X : Type 0} (xs : List X) (n i : ℕ) → i < n → slice_get (take n xs) i ≡ slice_get xs i
get_take [] zero i less = refl
get_take [] (suc n) i less = refl
get_take (x ∷ xs) zero i less = absurd (omega (arith, less))
get_take (x ∷ xs) (suc n) zero less = refl
get_take (x ∷ xs) (suc n) (suc i) less = get_take xs n i (omega (arith, less))

-- what begins a list is so many of its first
pub first_of : {X : Type 0} (xs ys : List X) (n : ℕ) → IsPrefix xs ys → length xs ≡ n → xs ≡ take n ys
first_of xs ys n (more, is) count =
    sym (ap (take n) (sym is) ∙ take-append-le n xs more (omega (arith, count)) ∙ take_all n xs (omega (arith, count)))

-- and what begins a beginning
pub first_of_more : {X : Type 0} (xs ys zs : List X) → IsPrefix ys zs → xs ≡ take (length xs) ys → length xs ≤ length ys → xs ≡ take (length xs) zs
first_of_more xs ys zs (more, is) first within =
    first ∙ sym (take-append-le (length xs) ys more within) ∙ ap (take (length xs)) is

pub prefix_length : {X : Type 0} (xs ys : List X) → IsPrefix xs ys → length xs ≤ length ys
prefix_length xs ys (more, is) = let longer = length-append xs more in let same = ap length is in omega (arith, longer, same)

pub get_replicate : {X : Type 0} (n i : ℕ) {x : X} (y : X) → slice_get (replicate n x) i ≡ Some y → x ≡ y
get_replicate zero i y is = cc (is)
get_replicate (suc n) zero y is = same_Some _ _ is
get_replicate (suc n) (suc i) y is = get_replicate n i y is

pub take_prefix : {X : Type 0} (n : ℕ) (xs ys : List X) → IsPrefix xs ys → n ≤ length xs → take n ys ≡ take n xs
take_prefix n xs ys (more, is) few = ap (take n) (sym is) ∙ take-append-le n xs more few

pub take_replicate : {X : Type 0} (n k : ℕ) (x : X) → k ≤ n → take k (replicate n x) ≡ replicate k x
take_replicate n zero x few = refl
take_replicate zero (suc k) x few = absurd (omega (arith, few))
take_replicate (suc n) (suc k) x few = ap (λ (xs : List _). x ∷ xs) (take_replicate n k x (omega (arith, few)))

-- where all records are among the first, these are all
pub records_first : (first : List VersionedEntry) (sealed : List (Marked VersionedEntry)) → length first ≡ length sealed → records_in first sealed ≡ first
records_first [] [] same = refl
records_first [] (m ∷ sealed) same = absurd (omega (arith, same))
records_first (x ∷ first) [] same = absurd (omega (arith, same))
records_first (x ∷ first) (m ∷ sealed) same = ap (λ (rs : List VersionedEntry). x ∷ rs) (records_first first sealed (omega (arith, same)))

pub unknown_marked : (k : ℕ) → unmarked (replicate k unknown.0) ≡ replicate k unknown
unknown_marked zero = refl
unknown_marked (suc k) = ap (λ (xs : List (Marked VersionedEntry)). unknown ∷ xs) (unknown_marked k)

pub replicate_more : {X : Type 0} (k n : ℕ) (x : X) → k ≤ n → replicate k x ++ replicate (n - k) x ≡ replicate n x
replicate_more zero n x few = ap (λ (m : ℕ). replicate m x) (omega arith)
replicate_more (suc k) zero x few = absurd (omega (arith, few))
replicate_more (suc k) (suc n) x few =
    ap (λ (m : ℕ). x ∷ (replicate k x ++ replicate m x)) (omega arith) ∙ ap (λ (xs : List _). x ∷ xs) (replicate_more k n x (omega (arith, few)))
