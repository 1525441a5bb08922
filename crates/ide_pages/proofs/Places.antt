-- Keys and their pages, and the place at which a list has what passes a test.
use Rattle.std.proofs.Common.{◌≡◌, ℕ, zero, suc, ◌+◌, ◌*◌, ◌/◌, ◌%◌, ◌<◌, refl, sym, ap, subst, ◌∙◌, arith, List, [], ◌∷◌, ◌++◌, length, get_or, Some, None, Bool, true, false, cond, ◌||◌}
use Rattle.std.specs.Prelude.{position, slice_get}
use Rattle.std.specs.Cmp.{IsEquivalence}
use Rattle.std.specs.List.{IsDistinct, list_any, position_from}
use Rattle.std.proofs.lemmas.Bool.{or_parts}
use Rattle.std.proofs.lemmas.Iterator.Adapters.{position_from-zero}
use Rattle.std.proofs.lemmas.Map.Keys.{IsDistinct-tail, apart_from_distinct}
use Rattle.std.proofs.lemmas.Option.{get_or_from_slice_get, slice_get_within}
use Rattle.ide_wire.specs.declared.key.Key.{Key}
use Rattle.ide_wire.specs.declared.key.Key.TheVariants.{Jump, Summary}
use Rattle.ide_wire.specs.Key.{same_key, same_key_laws}
use Rattle.ide_pages.specs.Pages.{key_on, offset_of, page_of}

-- ---- a key, its page and its offset

block-of : (block offset : ℕ) → offset < 64 → (64 * block + offset) / 64 ≡ block
block-of block offset l = omega arith

offset-of : (block offset : ℕ) → offset < 64 → (64 * block + offset) % 64 ≡ offset
offset-of block offset l = omega arith

whole-of : (n : ℕ) → 64 * (n / 64) + n % 64 ≡ n
whole-of n = omega arith

pub page_of-key_on : (page : Key) (offset : ℕ) → offset < 64 → page_of (key_on page offset) ≡ page
page_of-key_on (Jump block a b) offset l = ap (λ n. Jump n a b) (block-of block offset l)
page_of-key_on (Summary n a block) offset l = ap (Summary n a) (block-of block offset l)

pub offset-key_on : (page : Key) (offset : ℕ) → offset < 64 → offset_of (key_on page offset) ≡ offset
offset-key_on (Jump block a b) offset l = offset-of block offset l
offset-key_on (Summary n a block) offset l = offset-of block offset l

pub key_on-page_of : (key : Key) → key_on (page_of key) (offset_of key) ≡ key
key_on-page_of (Jump n a b) = ap (λ m. Jump m a b) (whole-of n)
key_on-page_of (Summary n a b) = ap (Summary n a) (whole-of b)

pub offset-within : (key : Key) → offset_of key < 64
offset-within (Jump n a b) = omega arith
offset-within (Summary n a b) = omega arith

-- ---- the place of what passes a test

module _ {X : Type 0} (test : X → Bool) where
  from-none : (i : ℕ) (xs : List X) → position_from test i xs ≡ None → list_any test xs ≡ false
  from-none i [] e = refl
  from-none i (x ∷ xs) e =
      elim (test x) as (λ b. cond b (Some i) (position_from test (i + 1) xs) ≡ None → (b || list_any test xs) ≡ false) [
        | true ↦ λ e. absurd (cc)
        | false ↦ λ e. from-none (i + 1) xs e
      ] e

  from-absent : (i : ℕ) (xs : List X) → list_any test xs ≡ false → position_from test i xs ≡ None
  from-absent i [] none = refl
  from-absent i (x ∷ xs) none =
      let parts = or_parts (test x) (list_any test xs) none in
      ap (λ b. cond b (Some i) (position_from test (i + 1) xs)) parts.0 ∙ from-absent (i + 1) xs parts.1

  from-last : (i : ℕ) (xs : List X) (y : X) → list_any test xs ≡ false → test y ≡ true → position_from test i (xs ++ y ∷ []) ≡ Some (i + length xs)
  from-last i [] y none own = let same : i ≡ i + 0 = omega arith in ap (λ b. cond b (Some i) None) own ∙ ap Some same
  from-last i (x ∷ xs) y none own =
      let parts = or_parts (test x) (list_any test xs) none in
      let same : (i + 1) + length xs ≡ i + length (x ∷ xs) = omega arith in
      ap (λ b. cond b (Some i) (position_from test (i + 1) (xs ++ y ∷ []))) parts.0 ∙ from-last (i + 1) xs y parts.1 own ∙ ap Some same

  from-kept : (i n : ℕ) (xs ys : List X) → position_from test i xs ≡ Some n → position_from test i (xs ++ ys) ≡ Some n
  from-kept i n [] ys e = absurd (cc (e))
  from-kept i n (x ∷ xs) ys e =
      elim (test x) as (λ b. cond b (Some i) (position_from test (i + 1) xs) ≡ Some n → cond b (Some i) (position_from test (i + 1) (xs ++ ys)) ≡ Some n) [
        | true ↦ λ e. e
        | false ↦ λ e. from-kept (i + 1) n xs ys e
      ] e

  -- it is the same where more comes behind
  pub position-kept : (xs ys : List X) (n : ℕ) → position test xs ≡ Some n → position test (xs ++ ys) ≡ Some n
  position-kept xs ys n e = position_from-zero test (xs ++ ys) ∙ from-kept 0 n xs ys (sym (position_from-zero test xs) ∙ e)

  pub position-none : (xs : List X) → position test xs ≡ None → list_any test xs ≡ false
  position-none xs e = from-none 0 xs (sym (position_from-zero test xs) ∙ e)

  pub position-absent : (xs : List X) → list_any test xs ≡ false → position test xs ≡ None
  position-absent xs none = position_from-zero test xs ∙ from-absent 0 xs none

  pub position-last : (xs : List X) (y : X) → list_any test xs ≡ false → test y ≡ true → position test (xs ++ y ∷ []) ≡ Some (length xs)
  position-last xs y none own =
      let same : 0 + length xs ≡ length xs = omega arith in
      position_from-zero test (xs ++ y ∷ []) ∙ from-last 0 xs y none own ∙ ap Some same

-- one more element, which does not pass, changes no place
module _ {X : Type 0} (test : X → Bool) (y : X) (other : test y ≡ false) where
  from-other : (i : ℕ) (xs : List X) → position_from test i (xs ++ y ∷ []) ≡ position_from test i xs
  from-other i [] = ap (λ b. cond b (Some i) None) other
  from-other i (x ∷ xs) = ap (cond (test x) (Some i)) (from-other (i + 1) xs)

  pub position-other : (xs : List X) → position test (xs ++ y ∷ []) ≡ position test xs
  position-other xs = position_from-zero test (xs ++ y ∷ []) ∙ from-other 0 xs ∙ sym (position_from-zero test xs)

-- what stands in a list whose elements differ is found where it stands
module _ {X : Type 0} (eq : X → X → Bool) (laws : IsEquivalence eq) where
  from-at : (i : ℕ) (xs : List X) (k : ℕ) (d : X) → IsDistinct eq xs → k < length xs → position_from (eq (get_or xs k d)) i xs ≡ Some (i + k)
  from-at i [] k d apart l = absurd (omega arith)
  from-at i (x ∷ xs) zero d apart l =
      let same : i ≡ i + zero = omega arith in
      ap (λ b. cond b (Some i) (position_from (eq x) (i + 1) xs)) (laws.refl x) ∙ ap Some same
  from-at i (x ∷ xs) (suc k) d apart l =
      let other : eq (get_or xs k d) x ≡ false = laws.symm (get_or xs k d) x ∙ apart_from_distinct eq (x ∷ xs) zero (suc k) d apart (omega arith) l in
      let same : (i + 1) + k ≡ i + suc k = omega arith in
      ap (λ b. cond b (Some i) (position_from (eq (get_or xs k d)) (i + 1) xs)) other
      ∙ from-at (i + 1) xs k d (IsDistinct-tail eq x xs apart) (omega arith) ∙ ap Some same

  pub found-where : (xs : List X) (k : ℕ) (d : X) → IsDistinct eq xs → k < length xs → position (eq (get_or xs k d)) xs ≡ Some k
  found-where xs k d apart l =
      let same : 0 + k ≡ k = omega arith in
      position_from-zero (eq (get_or xs k d)) xs ∙ from-at 0 xs k d apart l ∙ ap Some same

pub position-at : (keys : List Key) (k : ℕ) (d : Key) → IsDistinct same_key keys → k < length keys → position (same_key (get_or keys k d)) keys ≡ Some k
position-at = found-where same_key same_key_laws

-- a key that stands at an index is found there
pub found-at : (keys : List Key) (k : ℕ) (key : Key) → IsDistinct same_key keys → slice_get keys k ≡ Some key → position (same_key key) keys ≡ Some k
found-at keys k key apart is =
    subst (λ q. position (same_key q) keys ≡ Some k) (get_or_from_slice_get keys k key key is) (position-at keys k key apart (slice_get_within keys k key is))
