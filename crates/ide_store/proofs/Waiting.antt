-- Lists of records of which some are stored and the others wait.
use Rattle.std.proofs.Common.{◌≡◌, ◌∙◌, ◌≤◌, ◌+◌, ℕ, zero, suc, Bool, true, false, List, [], ◌∷◌, ◌++◌, Some, length, map, drop, refl, ap, sym, arith}
use Rattle.std.specs.Prelude.{if◌then◌else◌, nat_lt, slice_get, slice_index_or}
use Rattle.std.proofs.lemmas.List.{map-append}
use Rattle.ide_journal.specs.Format.{Entry}
use Rattle.ide_journal.specs.Lists.{entry_of}
use Rattle.ide_journal.specs.declared.record.RawRecord.{RawRecord}

-- what waits behind so many, when one more comes
drop_push : {X : Type 0} (n : ℕ) (xs : List X) (x : X) → n ≤ length xs → drop n (xs ++ x ∷ []) ≡ drop n xs ++ x ∷ []
drop_push zero xs x le = refl
drop_push (suc n) [] x le = absurd (omega (arith, le))
drop_push (suc n) (y ∷ ys) x le = drop_push n ys x (omega (arith, le))

-- the first of a list, by its length and its item
pub found_is : {X : Type 0} (xs : List X) (x : X) → true ≡ nat_lt 0 (length xs) → x ≡ slice_index_or xs 0 x → slice_get xs 0 ≡ Some x
found_is [] x less is = cc (less)
found_is (y ∷ ys) x less is = ap (λ z. Some z) (sym is)

pub pushed_items : {X : Type 0} (new old : List X) (x : X) (b : Bool) → new ≡ (if b then old ++ x ∷ [] else old) → b ≡ true → new ≡ old ++ x ∷ []
pushed_items new old x true is ok = is
pushed_items new old x false is ok = cc (ok)

-- the first of what waits is the next, and behind it waits the rest
pub front_next : {X : Type 0} (n : ℕ) (xs : List X) (y : X) (ys : List X) → y ∷ ys ≡ drop n xs → (slice_get xs n ≡ Some y) × (ys ≡ drop (n + 1) xs)
front_next zero [] y ys is = cc
front_next zero (x ∷ xs) y ys is = (cc, cc)
front_next (suc n) [] y ys is = cc
front_next (suc n) (x ∷ xs) y ys is =
    let rest = front_next n xs y ys is in
    let one : suc n + 1 ≡ suc (n + 1) = omega arith in
    (rest.0, rest.1 ∙ ap (λ (m : ℕ). drop m (x ∷ xs)) (sym one))

-- where nothing waits all are stored
pub none_waits : {X : Type 0} (n : ℕ) (xs : List X) → n ≤ length xs → [] ≡ drop n xs → n ≡ length xs
none_waits zero [] le is = refl
none_waits zero (x ∷ xs) le is = cc
none_waits (suc n) [] le is = absurd (omega (arith, le))
none_waits (suc n) (x ∷ xs) le is = let rest = none_waits n xs (omega (arith, le)) is in omega (arith, rest)

-- one more waits
pub sealed_waits : (records : List Entry) (stored : ℕ) (items : List RawRecord) (raw : RawRecord) → stored ≤ length records
    → map entry_of items ≡ drop stored records → map entry_of (items ++ raw ∷ []) ≡ drop stored (records ++ entry_of raw ∷ [])
sealed_waits records stored items raw some is =
    map-append entry_of items (raw ∷ []) ∙ ap (λ (xs : List Entry). xs ++ entry_of raw ∷ []) is ∙ sym (drop_push stored records (entry_of raw) some)

-- an item stands where it stood when more come
pub more_get : {X : Type 0} (xs ys : List X) (x : X) (n : ℕ) → slice_get xs n ≡ Some x → slice_get (xs ++ ys) n ≡ Some x
more_get [] ys x n is = cc
more_get (z ∷ zs) ys x zero is = is
more_get (z ∷ zs) ys x (suc n) is = more_get zs ys x n is

-- nothing gives no items
pub none_mapped : {X Y : Type 0} (f : X → Y) (xs : List X) → map f xs ≡ [] → xs ≡ []
none_mapped f [] is = refl
none_mapped f (x ∷ xs) is = cc (is)
