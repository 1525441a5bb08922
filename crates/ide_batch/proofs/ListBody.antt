-- A body of the first version, read from the front: its count is that of the items, and the list that stands behind it is theirs.
use Rattle.std.specs.Prelude.{◌≡◌, ℕ, ◌≤◌, ◌<◌, List, [], ◌∷◌, ◌++◌, length, map, IsTrue}
use Rattle.std.specs.Int.{w32, to_le_bytes}
use Rattle.std.specs.List.{flat_map}
use Rattle.std.specs.List.Sorted.{IsStrictlySortedBy}
use Rattle.std.proofs.Common.{ap, sym, subst, ◌∙◌, arith, append-nil}
use Rattle.std.proofs.lemmas.Bool.Decides.{nat_tests}
use Rattle.std.proofs.lemmas.List.{length-append}
use Rattle.ide_wire.specs.Form.{IsPrefixFree, NoFormInFront}
use Rattle.ide_wire.specs.KeyOrder.{key_cmp}
use Rattle.ide_wire.specs.Numbers.{fits, four_prefix_free}
use Rattle.ide_batch.specs.Forms.{all_proper, NoListInFront}
use Rattle.ide_batch.specs.FormLaws.{parted, item_free}
use Rattle.ide_batch.specs.Items.{Functions, Item, IsListBody, item_form, is_proper_item}
use Rattle.ide_batch.proofs.Lists.{goes_on}

-- a count that few things have can be spelled
pub small_count : (n : ℕ) → n ≤ 65536 → IsTrue (fits 32 n)
small_count n few = let big : n < 4294967296 = omega (arith, few) in grind (arith, nat_tests, big)

module _ {F : Type 0} (functions : Functions F) (free : IsPrefixFree functions.proper functions.form) where
  pub no_count : (body : List ℕ) → NoFormInFront (fits 32) (to_le_bytes w32) body → (xs : List (Item F)) → ¬ (IsListBody functions xs body)
  no_count body none xs is = none (length xs) (flat_map (item_form functions) xs) (small_count (length xs) is.written.few) is.is

  -- the count is theirs, and the rest their forms
  pub count_is : (body rest : List ℕ) (count : ℕ) → IsTrue (fits 32 count) → body ≡ to_le_bytes w32 count ++ rest
      → (xs : List (Item F)) → IsListBody functions xs body → (count ≡ length xs) × (rest ≡ flat_map (item_form functions) xs)
  count_is body rest count small found xs is =
      parted (fits 32) (to_le_bytes w32) (fits 32) (to_le_bytes w32) four_prefix_free count (length xs) rest (flat_map (item_form functions) xs)
      small (small_count (length xs) is.written.few) (sym found ∙ is.is)

  pub no_list : (body rest : List ℕ) (count : ℕ) → IsTrue (fits 32 count) → body ≡ to_le_bytes w32 count ++ rest
      → NoListInFront (is_proper_item functions) (item_form functions) count rest → (xs : List (Item F)) → ¬ (IsListBody functions xs body)
  no_list body rest count small found none xs is =
      let told = count_is body rest count small found xs is in
      none xs [] (sym told.0) is.written.proper (told.1 ∙ sym (append-nil (flat_map (item_form functions) xs)))

  -- a list that stands behind the count is theirs, and nothing stands behind it
  pub list_is : (body rest behind : List ℕ) (count : ℕ) (items : List (Item F)) → IsTrue (fits 32 count) → body ≡ to_le_bytes w32 count ++ rest
      → length items ≡ count → IsTrue (all_proper (is_proper_item functions) items) → rest ≡ flat_map (item_form functions) items ++ behind
      → (xs : List (Item F)) → IsListBody functions xs body → (xs ≡ items) × (behind ≡ [])
  list_is body rest behind count items small found counts proper lists xs is =
      let told = count_is body rest count small found xs is in
      ends (goes_on (is_proper_item functions) (item_form functions) (item_free functions free) items xs behind []
      proper is.written.proper (omega (arith, counts, told.0))
      (sym lists ∙ told.1 ∙ sym (append-nil (flat_map (item_form functions) xs)))) (told.0)
    where
      ends : (zs : List (Item F)) × (xs ≡ items ++ zs) × IsTrue (all_proper (is_proper_item functions) zs) × (behind ≡ flat_map (item_form functions) zs ++ [])
          → count ≡ length xs → (xs ≡ items) × (behind ≡ [])
      ends ([], is_xs, p, is_behind) same = (is_xs ∙ append-nil items, is_behind)
      ends (z ∷ zs, is_xs, p, is_behind) same = absurd (longer z zs items (ap length is_xs) (counts ∙ same))
        where
          longer : (z : Item F) (zs items : List (Item F)) → length xs ≡ length (items ++ z ∷ zs) → length items ≡ length xs → ⊥
          longer z zs items a b = grind (arith, length-append items (z ∷ zs), a, b)

  pub no_more : (body rest behind : List ℕ) (count : ℕ) (items : List (Item F)) → IsTrue (fits 32 count) → body ≡ to_le_bytes w32 count ++ rest
      → length items ≡ count → IsTrue (all_proper (is_proper_item functions) items) → rest ≡ flat_map (item_form functions) items ++ behind
      → ¬ (behind ≡ []) → (xs : List (Item F)) → ¬ (IsListBody functions xs body)
  no_more body rest behind count items small found counts proper lists some xs is =
      some (list_is body rest behind count items small found counts proper lists xs is).1

  pub none_mixed : (body rest behind : List ℕ) (count : ℕ) (items : List (Item F)) → IsTrue (fits 32 count) → body ≡ to_le_bytes w32 count ++ rest
      → length items ≡ count → IsTrue (all_proper (is_proper_item functions) items) → rest ≡ flat_map (item_form functions) items ++ behind
      → ¬ (IsStrictlySortedBy key_cmp (map (λ item. item.0) items)) → (xs : List (Item F)) → ¬ (IsListBody functions xs body)
  none_mixed body rest behind count items small found counts proper lists mixed xs is =
      let same = (list_is body rest behind count items small found counts proper lists xs is).0 in
      mixed (subst (λ (ys : List (Item F)). IsStrictlySortedBy key_cmp (map (λ item. item.0) ys)) same is.written.ascending)

  pub list_body : (body rest behind : List ℕ) (count : ℕ) (items : List (Item F)) → body ≡ to_le_bytes w32 count ++ rest
      → length items ≡ count → IsTrue (all_proper (is_proper_item functions) items) → rest ≡ flat_map (item_form functions) items ++ behind
      → behind ≡ [] → count ≤ 65536 → 1 ≤ length items → IsStrictlySortedBy key_cmp (map (λ item. item.0) items) → IsListBody functions items body
  list_body body rest behind count items found counts proper lists ends few some ascending = record {
    written = record { some = some; few = omega (arith, counts, few); ascending = ascending; proper = proper };
    is = found ∙ ap (λ n. to_le_bytes w32 n ++ rest) (sym counts)
        ∙ ap (λ bytes. to_le_bytes w32 (length items) ++ bytes)
        (lists ∙ ap (λ b. flat_map (item_form functions) items ++ b) ends ∙ append-nil (flat_map (item_form functions) items));
  }
