-- A table's keys, sorted.
use Rattle.std.proofs.Common.{◌≡◌, ℕ, ◌+◌, ◌++◌, ◌∷◌, [], sym, ap, ◌∙◌, arith, List, Some, get_or, false, subst, take}
use Rattle.std.specs.Prelude.{slice_get}
use Rattle.std.proofs.lemmas.List.{take_more}
use Rattle.std.proofs.lemmas.Option.{get_or_from_slice_get, slice_get_within}
use Rattle.std.specs.List.{IsDistinct, list_any}
use Rattle.std.specs.List.Sorted.{IsPermutation, IsSorted, IsStrictlySortedBy}
use Rattle.std.specs.Map.{keys_of}
use Rattle.std.specs.Ordering.{is_lt}
use Rattle.std.specs.declared.cmp.Ordering.TheVariants.{Less}
use Rattle.std.proofs.lemmas.Bool.Decides.{nat_tests}
use Rattle.std.proofs.lemmas.List.Sorted.{list_any-IsPermutation}
use Rattle.std.proofs.lemmas.Map.Keys.{IsDistinct-IsPermutation, apart_from_distinct, sorted_from_all_adjacent}
use Rattle.std.proofs.lemmas.Map.Made.{is_some-lookup}
use Rattle.ide_wire.specs.declared.key.Key.{Key}
use Rattle.ide_wire.specs.declared.key.Key.TheVariants.{Jump, Summary}
use Rattle.ide_wire.specs.Key.{same_key, same_key_symm}
use Rattle.ide_wire.specs.KeyOrder.{key_cmp, key_cmp_total}
use Rattle.ide_image.specs.Tables.{Table, AreKeys}

-- of two keys that differ the first is below, where the second is not
pub below : (x y : Key) → is_lt (key_cmp y x) ≡ false → same_key x y ≡ false → key_cmp x y ≡ Less
below (Jump n a b) (Jump m c d) o e = grind (arith, nat_tests)
below (Jump n a b) (Summary m c d) o e = grind (arith, nat_tests)
below (Summary n a b) (Jump m c d) o e = grind (arith, nat_tests)
below (Summary n a b) (Summary m c d) o e = grind (arith, nat_tests)

-- keys that differ ascend strictly once they are sorted
pub strictly : (keys : List Key) → IsDistinct same_key keys → IsSorted key_cmp keys → IsStrictlySortedBy key_cmp keys
strictly keys apart sorted =
    sorted_from_all_adjacent key_cmp_total keys (Jump 0 0 0)
    (λ k l. below (get_or keys k (Jump 0 0 0)) (get_or keys (k + 1) (Jump 0 0 0)) (sorted k (Jump 0 0 0) (omega arith) l)
    (apart_from_distinct same_key keys k (k + 1) (Jump 0 0 0) apart (omega arith) l))

pub are_keys : {F : Type 0} (table : Table F) (keys sorted : List Key) → keys ≡ keys_of table.entries → IsDistinct same_key (keys_of table.entries)
    → IsPermutation keys sorted → IsSorted key_cmp sorted → AreKeys key_cmp table sorted
are_keys table keys sorted is distinct moved ascends = record {
  ascending =
      strictly sorted
      (IsDistinct-IsPermutation same_key same_key_symm keys sorted moved (subst (IsDistinct same_key) (sym is) distinct))
      ascends;
  exact = λ key.
      sym (list_any-IsPermutation (same_key key) keys sorted moved)
      ∙ (ap (list_any (same_key key)) is ∙ sym (is_some-lookup (same_key key) table.entries));
}

-- one more of the keys is listed
pub next-key : {X : Type 0} (xs done : List X) (index : ℕ) (x : X) → slice_get xs index ≡ Some x → done ≡ take index xs → done ++ x ∷ [] ≡ take (index + 1) xs
next-key xs done index x is before =
    ap (λ ys. ys ++ x ∷ []) before
    ∙ sym (take_more xs index x (slice_get_within xs index x is) ∙ ap (λ y. take index xs ++ y ∷ []) (get_or_from_slice_get xs index x x is))
