-- The groups of items that ascend are such as a body may have, and their items are the items.
use Rattle.std.specs.Prelude.{◌≡◌, ℕ, ◌+◌, ◌≤◌, true, false, ◌&&◌, List, [], ◌∷◌, ◌++◌, length, nat_lt, IsTrue}
use Rattle.std.specs.Cmp.{IsTotalOrder}
use Rattle.std.specs.Cmp.Rules.{comparing}
use Rattle.std.specs.List.{AllByRecursion, flat_map}
use Rattle.std.specs.List.Sorted.{IsStrictlySortedBy}
use Rattle.std.specs.Ordering.{nat_cmp, on, ordering_then, then_cmp}
use Rattle.std.specs.declared.cmp.Ordering.TheVariants.{Less}
use Rattle.std.proofs.Common.{ap, sym, subst, refl, ◌∙◌, arith, lit≤, rules}
use Rattle.std.proofs.lemmas.Bool.{cond_both}
use Rattle.std.proofs.lemmas.Bool.Decides.{nat_tests}
use Rattle.std.proofs.lemmas.List.{length-append, length-map}
use Rattle.ide_wire.specs.Key.{is_proper_key, node_of}
use Rattle.ide_wire.specs.KeyOrder.{key_cmp}
use Rattle.ide_wire.specs.Numbers.{fits}
use Rattle.ide_wire.specs.declared.key.Key.{Key}
use Rattle.ide_wire.specs.declared.key.Key.TheVariants.{Jump, Summary}
use Rattle.ide_batch.specs.Forms.{all_proper, counted, is_countable}
use Rattle.ide_batch.specs.FormLaws.{left_law, right_law, both}
use Rattle.ide_batch.specs.Grouping.{GroupsSpellLists, alone, facts_in, groups_of, is_at, joined_to_groups, kind_at, member_of, with_member}
use Rattle.ide_batch.specs.Groups.{AreGroups, Group, IsGroup, IsGroupedBody, Member, group_cmp, group_form, is_proper_group, is_proper_member, items_of, key_of_kind, member_cmp}
use Rattle.ide_batch.specs.Items.{AreWritten, Functions, Item, is_proper_entry, is_proper_item}
use Rattle.ide_batch.proofs.Ascending.{keys_in}
use Rattle.ide_batch.proofs.ListBody.{small_count}

at_key : (key : Key) → key_of_kind (kind_at key) (node_of key) (facts_in key).0 (facts_in key).1 ≡ key
at_key (Jump n a b) = refl
at_key (Summary n a b) = refl

module _ {F : Type 0} where
  at_item : (item : Item F) (kind node : ℕ) → kind ≡ kind_at item.0 → node ≡ node_of item.0
      → (key_of_kind kind node (facts_in item.0).0 (facts_in item.0).1, item.1, item.2) ≡ item
  at_item item kind node is_kind is_node =
      ap (λ key. (key, item.1, item.2)) (rw (is_kind, is_node) (at_key item.0))

  pub same_place : (g : Group F) (key : Key) → is_at g key ≡ true → (g.kind ≡ kind_at key) × (g.node ≡ node_of key)
  same_place g key here = (grind (arith, nat_tests, here), grind (arith, nat_tests, here))

  -- the items of the groups are the items
  joined_items : (item : Item F) (groups : List (Group F)) → flat_map items_of (joined_to_groups item groups) ≡ item ∷ flat_map items_of groups
  joined_items item [] = ap (λ x. x ∷ []) (at_item item (kind_at item.0) (node_of item.0) refl refl)
  joined_items item (g ∷ groups) =
      cond_both (is_at g item.0) (with_member (member_of item) g ∷ groups) (alone item ∷ g ∷ groups)
      (λ gs. flat_map items_of gs ≡ item ∷ flat_map items_of (g ∷ groups))
      (λ here. let place = same_place g item.0 here in
      ap (λ x. x ∷ flat_map items_of (g ∷ groups)) (at_item item g.kind g.node place.0 place.1))
      (λ elsewhere. ap (λ x. x ∷ flat_map items_of (g ∷ groups)) (at_item item (kind_at item.0) (node_of item.0) refl refl))

  pub items_are : (items : List (Item F)) → flat_map items_of (groups_of items) ≡ items
  items_are [] = refl
  items_are (item ∷ items) = joined_items item (groups_of items) ∙ ap (λ xs. item ∷ xs) (items_are items)

  -- what is first in groups is of the kind and node of the first item
  abbrev pub StartsAt : Key → List (Group F) → Type 0
  StartsAt key [] = ⊥
  StartsAt key (g ∷ groups) = (g.kind ≡ kind_at key) × (g.node ≡ node_of key)

  pub starts : (item : Item F) (groups : List (Group F)) → StartsAt item.0 (joined_to_groups item groups)
  starts item [] = (refl, refl)
  starts item (g ∷ groups) =
      cond_both (is_at g item.0) (with_member (member_of item) g ∷ groups) (alone item ∷ g ∷ groups) (StartsAt item.0)
      (same_place g item.0) (λ elsewhere. (refl, refl))

  -- of a key before another, the place is before the other's, or the same, and then the facts are before
  place_below : (g : Group F) (x y : Key) → g.kind ≡ kind_at y → g.node ≡ node_of y → key_cmp x y ≡ Less → is_at g x ≡ false
      → ordering_then (nat_cmp (kind_at x) g.kind) (nat_cmp (node_of x) g.node) ≡ Less
  place_below g (Jump n a b) (Jump m c d) kind node less other = grind (arith, nat_tests, kind, node, less, other)
  place_below g (Jump n a b) (Summary m c d) kind node less other = rw kind refl
  place_below g (Summary n a b) (Jump m c d) kind node less other = cc (less)
  place_below g (Summary n a b) (Summary m c d) kind node less other = grind (arith, nat_tests, kind, node, less, other)

  facts_below : (g : Group F) (m : Member F) (item : Item F) → g.kind ≡ kind_at item.0 → g.node ≡ node_of item.0
      → key_cmp item.0 (key_of_kind g.kind g.node m.0 m.1) ≡ Less → member_cmp (member_of item) m ≡ Less
  facts_below g m (Jump n a b, f, p) kind node less = grind (arith, nat_tests, rw (kind, node) at less)
  facts_below g m (Summary n a b, f, p) kind node less = grind (arith, nat_tests, rw (kind, node) at less)

  group_total : IsTotalOrder (then_cmp (on (λ (g : Group F). g.kind) nat_cmp) (on (λ g. g.node) nat_cmp))
  group_total = search (comparing, rules)

  below_all : (h g : Group F) (groups : List (Group F)) → group_cmp h g ≡ Less
      → AllByRecursion (λ y. group_cmp g y ≡ Less) groups → AllByRecursion (λ y. group_cmp h y ≡ Less) groups
  below_all h g [] less all = tt
  below_all h g (y ∷ groups) less all = (group_total.trans h g y less all.0, below_all h g groups less all.1)

  -- groups ascend
  joined_ascend : (item : Item F) (groups : List (Group F)) (key : Key) → StartsAt key groups → key_cmp item.0 key ≡ Less
      → IsStrictlySortedBy group_cmp groups → IsStrictlySortedBy group_cmp (joined_to_groups item groups)
  unfolding IsStrictlySortedBy
  joined_ascend item [] key first less sorted = absurd first
  joined_ascend item (g ∷ groups) key first less sorted =
      cond_both (is_at g item.0) (with_member (member_of item) g ∷ groups) (alone item ∷ g ∷ groups) (IsStrictlySortedBy group_cmp)
      (λ here. sorted)
      (λ elsewhere.
      let below : group_cmp (alone item) g ≡ Less = place_below g item.0 key first.0 first.1 less elsewhere in
      ((below, below_all (alone item) g groups below sorted.0), sorted))

  ascend : (items : List (Item F)) → IsStrictlySortedBy key_cmp (keys_in items) → IsStrictlySortedBy group_cmp (groups_of items)
  unfolding IsStrictlySortedBy
  ascend [] sorted = tt
  ascend (item ∷ []) sorted = (tt, tt)
  ascend (item ∷ y ∷ items) sorted =
      joined_ascend item (groups_of (y ∷ items)) y.0 (starts y (groups_of items)) sorted.0.0 (ascend (y ∷ items) sorted.1)

  -- and the members of each
  members_below : (g : Group F) (item : Item F) (members : List (Member F)) (more : List (Item F)) → g.kind ≡ kind_at item.0 → g.node ≡ node_of item.0
      → AllByRecursion (λ key. key_cmp item.0 key ≡ Less) (keys_in (items_of (record g { members = members }) ++ more))
      → AllByRecursion (λ m. member_cmp (member_of item) m ≡ Less) members
  members_below g item [] more kind node below = tt
  members_below g item (m ∷ members) more kind node below =
      (facts_below g m item kind node below.0, members_below g item members more kind node below.1)

  alone_is : (item : Item F) → IsGroup (alone item)
  unfolding IsStrictlySortedBy
  alone_is item = record { some = lit≤ tt; ascending = (tt, tt) }

  joined_each : (item : Item F) (groups : List (Group F)) → AllByRecursion (λ key. key_cmp item.0 key ≡ Less) (keys_in (flat_map items_of groups))
      → AllByRecursion IsGroup groups → AllByRecursion IsGroup (joined_to_groups item groups)
  unfolding IsStrictlySortedBy
  joined_each item [] below each = (alone_is item, tt)
  joined_each item (g ∷ groups) below each =
      cond_both (is_at g item.0) (with_member (member_of item) g ∷ groups) (alone item ∷ g ∷ groups) (AllByRecursion IsGroup)
      (λ here.
      let place = same_place g item.0 here in
      let long : 1 ≤ length (member_of item ∷ g.members) = omega arith in (
        record {
          some = long;
          ascending = (members_below g item g.members (flat_map items_of groups) place.0 place.1 below, each.0.ascending);
        },
        each.1,
      ))
      (λ elsewhere. (alone_is item, each))

  are_each : (items : List (Item F)) → IsStrictlySortedBy key_cmp (keys_in items) → AllByRecursion IsGroup (groups_of items)
  unfolding IsStrictlySortedBy
  are_each [] sorted = tt
  are_each (item ∷ items) sorted =
      joined_each item (groups_of items)
      (subst (λ (xs : List (Item F)). AllByRecursion (λ key. key_cmp item.0 key ≡ Less) (keys_in xs)) (sym (items_are items)) sorted.0)
      (are_each items sorted.1)

  -- there are no more groups than items
  pub groups_few : (groups : List (Group F)) → AllByRecursion IsGroup groups → length groups ≤ length (flat_map items_of groups)
  groups_few [] each = lit≤ tt
  groups_few (g ∷ groups) each =
      let first : length (items_of g) ≡ length g.members = length-map g.members (λ m. (key_of_kind g.kind g.node m.0 m.1, m.2, m.3)) in
      let all : length (flat_map items_of (g ∷ groups)) ≡ length (items_of g) + length (flat_map items_of groups) = length-append (items_of g) (flat_map items_of groups) in
      omega (arith, first, all, each.0.some, groups_few groups each.1)

  members_few : (g : Group F) (groups : List (Group F)) → length g.members ≤ length (flat_map items_of (g ∷ groups))
  members_few g groups =
      let first : length (items_of g) ≡ length g.members = length-map g.members (λ m. (key_of_kind g.kind g.node m.0 m.1, m.2, m.3)) in
      let all : length (flat_map items_of (g ∷ groups)) ≡ length (items_of g) + length (flat_map items_of groups) = length-append (items_of g) (flat_map items_of groups) in
      omega (arith, first, all)

module _ {F : Type 0} (functions : Functions F) where
  place_proper : (key : Key) → IsTrue (is_proper_key key) → IsTrue (nat_lt (kind_at key) 2 && fits 32 (node_of key))
  place_proper (Jump n a b) proper = grind (arith, nat_tests)
  place_proper (Summary n a b) proper = grind (arith, nat_tests)

  facts_proper : (key : Key) → IsTrue (is_proper_key key) → IsTrue (fits 16 (facts_in key).0 && fits 16 (facts_in key).1)
  facts_proper (Jump n a b) proper = grind (arith, nat_tests)
  facts_proper (Summary n a b) proper = grind (arith, nat_tests)

  member_proper : (item : Item F) → IsTrue (is_proper_item functions item) → IsTrue (is_proper_member functions (member_of item))
  member_proper item proper =
      both _ _ (facts_proper item.0 (left_law _ _ proper)) (right_law (is_proper_key item.0) (is_proper_entry functions (item.1, item.2)) proper)

  alone_proper : (item : Item F) → IsTrue (is_proper_item functions item) → IsTrue (is_proper_group functions (alone item))
  alone_proper item proper =
      both _ _ (place_proper item.0 (left_law (is_proper_key item.0) (is_proper_entry functions (item.1, item.2)) proper))
      (both (is_proper_member functions (member_of item)) true (member_proper item proper) refl)

  with_proper : (item : Item F) (g : Group F) → IsTrue (is_proper_item functions item) → length g.members ≤ 65535
      → IsTrue (is_proper_group functions g) → IsTrue (is_proper_group functions (with_member (member_of item) g))
  with_proper item g proper few all =
      let counted : IsTrue (is_countable (is_proper_member functions) g.members) = right_law (nat_lt g.kind 2 && fits 32 g.node) (is_countable (is_proper_member functions) g.members) all in
      let more : length (member_of item ∷ g.members) ≤ 65536 = omega (arith, few) in
      both (nat_lt g.kind 2 && fits 32 g.node) (is_countable (is_proper_member functions) (member_of item ∷ g.members))
      (left_law (nat_lt g.kind 2 && fits 32 g.node) (is_countable (is_proper_member functions) g.members) all)
      (both (fits 32 (length (member_of item ∷ g.members))) (all_proper (is_proper_member functions) (member_of item ∷ g.members))
      (small_count (length (member_of item ∷ g.members)) more)
      (both (is_proper_member functions (member_of item)) (all_proper (is_proper_member functions) g.members) (member_proper item proper)
      (right_law (fits 32 (length g.members)) (all_proper (is_proper_member functions) g.members) counted)))

  joined_proper : (item : Item F) (groups : List (Group F)) → IsTrue (is_proper_item functions item) → length (flat_map items_of groups) ≤ 65535
      → IsTrue (all_proper (is_proper_group functions) groups) → IsTrue (all_proper (is_proper_group functions) (joined_to_groups item groups))
  joined_proper item [] proper few all = both (is_proper_group functions (alone item)) true (alone_proper item proper) refl
  joined_proper item (g ∷ groups) proper few all =
      cond_both (is_at g item.0) (with_member (member_of item) g ∷ groups) (alone item ∷ g ∷ groups) (λ gs. IsTrue (all_proper (is_proper_group functions) gs))
      (λ here.
      both (is_proper_group functions (with_member (member_of item) g)) (all_proper (is_proper_group functions) groups)
      (with_proper item g proper (omega (arith, few, members_few g groups)) (left_law (is_proper_group functions g) (all_proper (is_proper_group functions) groups) all))
      (right_law (is_proper_group functions g) (all_proper (is_proper_group functions) groups) all))
      (λ elsewhere. both (is_proper_group functions (alone item)) (all_proper (is_proper_group functions) (g ∷ groups)) (alone_proper item proper) all)

  all_are_proper : (items : List (Item F)) → length items ≤ 65536 → IsTrue (all_proper (is_proper_item functions) items)
      → IsTrue (all_proper (is_proper_group functions) (groups_of items))
  all_are_proper [] few proper = refl
  all_are_proper (item ∷ items) few proper =
      let same : length (flat_map items_of (groups_of items)) ≡ length items = ap length (items_are items) in
      joined_proper item (groups_of items) (left_law (is_proper_item functions item) (all_proper (is_proper_item functions) items) proper)
      (omega (arith, few, same))
      (all_are_proper items (omega (arith, few)) (right_law (is_proper_item functions item) (all_proper (is_proper_item functions) items) proper))

  some_groups : (items : List (Item F)) → 1 ≤ length items → 1 ≤ length (groups_of items)
  some_groups items some = elim (groups_of items) as (λ groups. flat_map items_of groups ≡ items → 1 ≤ length groups) [
    | [] ↦ λ same. let none : 0 ≡ length items = ap length same in omega (arith, none, some)
    | g ∷ groups ↦ λ same. let long : 1 ≤ length (g ∷ groups) = omega arith in long
  ] (items_are items)

  -- items that may be written are in groups that may
  pub are_groups : (items : List (Item F)) → AreWritten functions items → AreGroups functions (groups_of items)
  are_groups items written =
      let same : length (flat_map items_of (groups_of items)) ≡ length items = ap length (items_are items) in
      let each = are_each items written.ascending in
      let fewer : length (groups_of items) ≤ 65536 = omega (arith, same, written.few, groups_few (groups_of items) each) in
      record {
        some = some_groups items written.some;
        few = omega (arith, same, written.few);
        ascending = ascend items written.ascending;
        each = each;
        proper = both (fits 32 (length (groups_of items))) (all_proper (is_proper_group functions) (groups_of items))
            (small_count (length (groups_of items)) fewer) (all_are_proper items written.few written.proper);
      }

  pub grouped_body : (items : List (Item F)) → AreWritten functions items → IsGroupedBody functions items (counted (group_form functions) (groups_of items))
  grouped_body items written = record { groups = groups_of items; are = are_groups items written; items_are = sym (items_are items); is = refl }

  pub groups_spell : GroupsSpellLists functions
  groups_spell items listed is = (counted (group_form functions) (groups_of items), grouped_body items is.written)
