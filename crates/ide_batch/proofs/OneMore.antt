-- Items with one more behind them: that they ascend, and which groups they are in.
use Rattle.std.specs.Prelude.{◌≡◌, Bool, true, false, cond, List, [], ◌∷◌, ◌++◌, IsTrue}
use Rattle.std.specs.List.{AllByRecursion}
use Rattle.std.specs.List.Sorted.{IsStrictlySortedBy}
use Rattle.std.specs.declared.cmp.Ordering.TheVariants.{Less}
use Rattle.std.proofs.Common.{ap, sym, refl, ◌∙◌, arith, append_assoc}
use Rattle.std.proofs.lemmas.Bool.{cond-false, cond-true, cond_both}
use Rattle.std.proofs.lemmas.Bool.Decides.{nat_tests}
use Rattle.ide_wire.specs.KeyOrder.{key_cmp, key_cmp_total}
use Rattle.ide_wire.specs.declared.key.Key.{Key}
use Rattle.ide_batch.specs.Forms.{all_proper}
use Rattle.ide_batch.specs.FormLaws.{left_law, right_law}
use Rattle.ide_batch.specs.Grouping.{alone, groups_of, is_at, joined_to_groups, member_of, with_member}
use Rattle.ide_batch.specs.Groups.{Group, Member}
use Rattle.ide_batch.specs.Items.{Item}
use Rattle.ide_batch.specs.Writing.{IsAboveLast, last_key}
use Rattle.ide_batch.proofs.Ascending.{keys_in}
use Rattle.ide_batch.proofs.Grouping.{same_place}

-- keys that ascend, and one behind them

below_each : (x y : Key) (keys : List Key) → key_cmp x y ≡ Less → AllByRecursion (λ key. key_cmp y key ≡ Less) keys
    → AllByRecursion (λ key. key_cmp x key ≡ Less) keys
below_each x y [] less all = tt
below_each x y (z ∷ keys) less all = (key_cmp_total.trans x y z less all.0, below_each x y keys less all.1)

pub was_proper : {T : Type 0} (proper : T → Bool) (xs : List T) (x : T) (rest : List T) → IsTrue (all_proper proper (xs ++ x ∷ rest)) → IsTrue (proper x)
was_proper proper [] x rest all = left_law (proper x) (all_proper proper rest) all
was_proper proper (y ∷ ys) x rest all = was_proper proper ys x rest (right_law (proper y) (all_proper proper (ys ++ x ∷ rest)) all)

module _ {F : Type 0} where
  pub rises : (items : List (Item F)) (item : Item F) → IsAboveLast (last_key items) item.0 → IsStrictlySortedBy key_cmp (keys_in items)
      → IsStrictlySortedBy key_cmp (keys_in (items ++ item ∷ []))
  unfolding IsStrictlySortedBy
  rises [] item above sorted = (tt, tt)
  rises (x ∷ []) item above sorted = ((above, tt), (tt, tt))
  rises (x ∷ y ∷ items) item above sorted =
      let behind = rises (y ∷ items) item above sorted.1 in
      ((sorted.0.0, below_each x.0 y.0 (keys_in (items ++ item ∷ [])) sorted.0.0 behind.0), behind)

  pub rose : (items : List (Item F)) (item : Item F) (rest : List (Item F)) → IsStrictlySortedBy key_cmp (keys_in (items ++ item ∷ rest))
      → IsAboveLast (last_key items) item.0
  unfolding IsStrictlySortedBy
  rose [] item rest sorted = tt
  rose (x ∷ []) item rest sorted = sorted.0.0
  rose (x ∷ y ∷ items) item rest sorted = rose (y ∷ items) item rest sorted.1

-- the groups of items, and one more item

module _ {F : Type 0} where
  abbrev pub with_last : Member F → Group F → Group F
  with_last member group = record group { members = group.members ++ member ∷ [] }

  abbrev put_behind : Item F → List (Group F) → List (Group F)
  put_behind item [] = alone item ∷ []
  put_behind item (g ∷ []) = cond (is_at g item.0) (with_last (member_of item) g ∷ []) (g ∷ alone item ∷ [])
  put_behind item (g ∷ h ∷ groups) = g ∷ put_behind item (h ∷ groups)

  alone_both : (x item : Item F) → joined_to_groups x (alone item ∷ []) ≡ put_behind item (alone x ∷ [])
  alone_both x item = elim (is_at (alone item) x.0) as (λ b. is_at (alone item) x.0 ≡ b → joined_to_groups x (alone item ∷ []) ≡ put_behind item (alone x ∷ [])) [
    | true ↦ λ here.
        let place = same_place (alone item) x.0 here in
        let there : is_at (alone x) item.0 ≡ true = grind (arith, nat_tests, here) in
        cond-true (is_at (alone item) x.0) _ _ here
        ∙ (λ i. record { kind = place.0 i; node = place.1 i; members = member_of x ∷ member_of item ∷ [] } ∷ [])
        ∙ sym (cond-true (is_at (alone x) item.0) _ _ there)
    | false ↦ λ elsewhere.
        let there : is_at (alone x) item.0 ≡ false = grind (arith, nat_tests, elsewhere) in
        cond-false (is_at (alone item) x.0) _ _ elsewhere ∙ sym (cond-false (is_at (alone x) item.0) _ _ there)
  ] refl

  one_both : (x item : Item F) (g : Group F) → joined_to_groups x (put_behind item (g ∷ [])) ≡ put_behind item (joined_to_groups x (g ∷ []))
  one_both x item g = elim (is_at g x.0) as (λ b. is_at g x.0 ≡ b → joined_to_groups x (put_behind item (g ∷ [])) ≡ put_behind item (joined_to_groups x (g ∷ []))) [
    | true ↦ λ here. elim (is_at g item.0) as (λ b. is_at g item.0 ≡ b → joined_to_groups x (put_behind item (g ∷ [])) ≡ put_behind item (joined_to_groups x (g ∷ []))) [
      | true ↦ λ there. simp (here, there)
      | false ↦ λ there. simp (here, there)
    ] refl
    | false ↦ λ here. elim (is_at g item.0) as (λ b. is_at g item.0 ≡ b → joined_to_groups x (put_behind item (g ∷ [])) ≡ put_behind item (joined_to_groups x (g ∷ []))) [
      | true ↦ λ there. simp (here, there)
      | false ↦ λ there. simp (here, there)
    ] refl
  ] refl

  both_ends : (x item : Item F) (groups : List (Group F)) → joined_to_groups x (put_behind item groups) ≡ put_behind item (joined_to_groups x groups)
  both_ends x item [] = alone_both x item
  both_ends x item (g ∷ []) = one_both x item g
  both_ends x item (g ∷ h ∷ groups) =
      cond_both (is_at g x.0) (with_member (member_of x) g ∷ h ∷ groups) (alone x ∷ g ∷ h ∷ groups)
      (λ gs. cond (is_at g x.0) (with_member (member_of x) g ∷ put_behind item (h ∷ groups)) (alone x ∷ g ∷ put_behind item (h ∷ groups)) ≡ put_behind item gs)
      (λ here. cond-true (is_at g x.0) _ _ here) (λ elsewhere. cond-false (is_at g x.0) _ _ elsewhere)

  more_groups : (items : List (Item F)) (item : Item F) → groups_of (items ++ item ∷ []) ≡ put_behind item (groups_of items)
  more_groups [] item = refl
  more_groups (x ∷ items) item = ap (joined_to_groups x) (more_groups items item) ∙ both_ends x item (groups_of items)

  behind_all : (item : Item F) (before : List (Group F)) (g : Group F) → put_behind item (before ++ g ∷ []) ≡ before ++ put_behind item (g ∷ [])
  behind_all item [] g = refl
  behind_all item (h ∷ []) g = refl
  behind_all item (h ∷ k ∷ before) g = ap (λ gs. h ∷ gs) (behind_all item (k ∷ before) g)

  -- so the groups of one more item
  pub goes_in : (x : Item F) (items : List (Item F)) (item : Item F) (before : List (Group F)) (g : Group F)
      → groups_of (x ∷ items) ≡ before ++ g ∷ [] → is_at g item.0 ≡ true
      → groups_of ((x ∷ items) ++ item ∷ []) ≡ before ++ with_last (member_of item) g ∷ []
  goes_in x items item before g groups here =
      more_groups (x ∷ items) item ∙ ap (put_behind item) groups ∙ behind_all item before g
      ∙ ap (λ gs. before ++ gs) (cond-true (is_at g item.0) _ _ here)

  pub goes_behind : (x : Item F) (items : List (Item F)) (item : Item F) (before : List (Group F)) (g : Group F)
      → groups_of (x ∷ items) ≡ before ++ g ∷ [] → is_at g item.0 ≡ false
      → groups_of ((x ∷ items) ++ item ∷ []) ≡ (before ++ g ∷ []) ++ alone item ∷ []
  goes_behind x items item before g groups elsewhere =
      more_groups (x ∷ items) item ∙ ap (put_behind item) groups ∙ behind_all item before g
      ∙ ap (λ gs. before ++ gs) (cond-false (is_at g item.0) _ _ elsewhere)
      ∙ sym (append_assoc before (g ∷ []) (alone item ∷ []))
