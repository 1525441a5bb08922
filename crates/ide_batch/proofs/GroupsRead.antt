-- Groups that are read from the front of bytes: one, one more behind others, and the whole body.
use Rattle.std.specs.Prelude.{◌≡◌, ◌≢◌, ℕ, ◌+◌, ◌≤◌, ◌<◌, List, [], ◌∷◌, ◌++◌, Option, Some, None, length, IsTrue}
use Rattle.std.specs.Int.{w32, to_le_bytes}
use Rattle.std.specs.List.{AllByRecursion, flat_map}
use Rattle.std.specs.List.Sorted.{IsStrictlySortedBy}
use Rattle.std.proofs.Common.{ap, sym, subst, refl, ◌∙◌, arith, append_assoc, append-nil}
use Rattle.std.proofs.lemmas.List.{length-append, length-map}
use Rattle.std.proofs.lemmas.List.Concat.{flat_map-append}
use Rattle.ide_wire.specs.Form.{IsPrefixFree, NoFormInFront}
use Rattle.ide_wire.specs.Numbers.{fits, four_prefix_free}
use Rattle.ide_batch.specs.Forms.{all_proper, is_countable}
use Rattle.ide_batch.specs.FormLaws.{left_law, right_law, both, parted}
use Rattle.ide_batch.specs.Groups.{Group, IsGroup, IsGroupedBody, group_cmp, group_form, is_proper_group, is_proper_member, items_of, key_of_kind, member_form}
use Rattle.ide_batch.specs.GroupsRead.{AreInOrder, IsAbove, NoGroup, NoGroups, NoMembers, Place, ReadsGroup, ReadsGroups, ReadsMembers, group_place, header_form, is_proper_header, last_place}
use Rattle.ide_batch.specs.Items.{Functions, Item}
use Rattle.ide_batch.proofs.Apart.{group_free}
use Rattle.ide_batch.proofs.Headers.{header_free, is_proper_place}
use Rattle.ide_batch.proofs.Lists.{forms-push, goes_on, proper-push}
use Rattle.ide_batch.proofs.Places.{above_last, all-push, all_at, last-push, sorted-push}

flat_map-push : {X Y : Type 0} (f : X → List Y) (xs : List X) (x : X) → flat_map f (xs ++ x ∷ []) ≡ flat_map f xs ++ f x
flat_map-push f xs x = flat_map-append f xs (x ∷ []) ∙ ap (λ ys. flat_map f xs ++ ys) (append-nil (f x))

module _ {F : Type 0} (functions : Functions F) where
  -- ---- one group
  header_proper : (group : Group F) → IsTrue (is_proper_group functions group) → IsTrue (is_proper_header (group_place group, length group.members))
  header_proper group proper =
      both (is_proper_place (group_place group)) (fits 32 (length group.members)) (left_law _ _ proper) (left_law _ _ (right_law _ _ proper))

  pub no_header : (before : Option Place) (so_far : ℕ) (bytes : List ℕ) → NoFormInFront is_proper_header header_form bytes → NoGroup functions before so_far bytes
  no_header before so_far bytes none group rest follows is =
      none (group_place group, length group.members) (flat_map (member_form functions) group.members ++ rest) (header_proper group follows.proper) is

  -- a header in front is the group's
  header_is : (bytes rest behind : List ℕ) (place : Place) (count : ℕ) (group : Group F) → IsTrue (is_proper_header (place, count))
      → bytes ≡ header_form (place, count) ++ rest → IsTrue (is_proper_group functions group) → bytes ≡ group_form functions group ++ behind
      → (place ≡ group_place group) × (count ≡ length group.members) × (rest ≡ flat_map (member_form functions) group.members ++ behind)
  header_is bytes rest behind place count group proper found proper_group is =
      let cut = parted is_proper_header header_form is_proper_header header_form header_free (place, count) (group_place group, length group.members)
      rest (flat_map (member_form functions) group.members ++ behind) proper (header_proper group proper_group) (sym found ∙ is) in
      (ap (λ (h : Place × ℕ). h.0) cut.0, ap (λ (h : Place × ℕ). h.1) cut.0, cut.1)

  module _ (before : Option Place) (place : Place) (count : ℕ) (bytes rest : List ℕ) (proper : IsTrue (is_proper_header (place, count)))
      (found : bytes ≡ header_form (place, count) ++ rest) where
    pub not_above : (so_far : ℕ) → ¬ (IsAbove before place) → NoGroup functions before so_far bytes
    not_above so_far not group behind follows is =
        not (subst (IsAbove before) (sym (header_is bytes rest behind place count group proper found follows.proper is).0) follows.above)

    pub no_count : (so_far : ℕ) → count ≡ 0 → NoGroup functions before so_far bytes
    no_count so_far empty group behind follows is =
        let counts = (header_is bytes rest behind place count group proper found follows.proper is).1 in
        let some = follows.is.some in
        omega (arith, empty, counts, some)

    pub too_many : (so_far : ℕ) → 65536 < so_far + count → NoGroup functions before so_far bytes
    too_many so_far many group behind follows is =
        let counts = (header_is bytes rest behind place count group proper found follows.proper is).1 in
        let few = follows.few in
        omega (arith, many, counts, few)

    pub no_members : (so_far : ℕ) → NoMembers functions count rest → NoGroup functions before so_far bytes
    no_members so_far none group behind follows is =
        let here = header_is bytes rest behind place count group proper found follows.proper is in
        none group.members behind
        (record { counted = sym here.1; proper = right_law (fits 32 (length group.members)) _ (right_law _ _ follows.proper); ascending = follows.is.ascending })
        here.2

    pub group_read : (old new : List (Item F)) (behind : List ℕ) → IsAbove before place → count ≢ 0 → length old + count ≤ 65536
        → ReadsMembers functions place count old new rest behind → ReadsGroup functions before place old new bytes behind
    group_read old new behind above some few reads =
        let counts = reads.are.counted in
        record {
          group = record { kind = place.0; node = place.1; members = reads.members };
          follows = record {
            is = record { some = omega (arith, counts, some); ascending = reads.are.ascending };
            proper = both (is_proper_place place) (is_countable (is_proper_member functions) reads.members) (left_law _ _ proper)
                (both (fits 32 (length reads.members)) (all_proper (is_proper_member functions) reads.members)
                (subst (λ n. IsTrue (fits 32 n)) (sym counts) (right_law (is_proper_place place) (fits 32 count) proper)) reads.are.proper);
            above = above;
            few = omega (arith, counts, few);
          };
          place_is = refl;
          found =
              found ∙ ap (λ n. header_form (place, n) ++ rest) (sym counts)
              ∙ ap (λ r. header_form (place, length reads.members) ++ r) reads.found;
          items_are = reads.items_are;
        }

  -- ---- one more
  abbrev pub ReadSoFar : ℕ → Option Place → List (Item F) → (bytes rest : List ℕ) → Type 0
  ReadSoFar taken before items bytes rest = (reads : ReadsGroups functions taken items bytes rest) × (before ≡ last_place group_place None reads.groups)

  pub groups_none : (bytes : List ℕ) → ReadSoFar 0 None [] bytes bytes
  unfolding IsStrictlySortedBy
  groups_none bytes =
      (record { groups = []; are = record { counted = refl; few = omega arith; ascending = tt; each = tt; proper = refl }; found = refl; items_are = refl }, refl)

  items_count : (group : Group F) → length (items_of group) ≡ length group.members
  items_count group = length-map group.members (λ member. (key_of_kind group.kind group.node member.0 member.1, member.2, member.3))

  pub groups-push : (taken : ℕ) (before : Option Place) (place : Place) (items new : List (Item F)) (bytes rest behind : List ℕ)
      → ReadSoFar taken before items bytes rest → ReadsGroup functions before place items new rest behind → ReadSoFar (taken + 1) (Some place) new bytes behind
  groups-push taken before place items new bytes rest behind (reads, last) one = (
    record {
      groups = reads.groups ++ one.group ∷ [];
      are = record {
        counted = let more = length-append reads.groups (one.group ∷ []) in let so_far = reads.are.counted in omega (arith, more, so_far);
        few =
            let same = ap length items_are in
            let long = ap length one.items_are in
            let split = length-append items (items_of one.group) in
            let size = items_count one.group in
            let few = one.follows.few in
            omega (arith, same, long, split, size, few);
        ascending = sorted-push group_place reads.groups one.group reads.are.ascending
            (subst (λ (b : Option Place). IsAbove b (group_place one.group)) last one.follows.above);
        each = all-push IsGroup reads.groups one.group reads.are.each one.follows.is;
        proper = proper-push (is_proper_group functions) (group_form functions) reads.groups one.group reads.are.proper one.follows.proper;
      };
      found = forms-push (is_proper_group functions) (group_form functions) reads.groups one.group bytes rest behind reads.found one.found;
      items_are = items_are;
    },
    ap (λ (p : Place). Some p) one.place_is ∙ sym (last-push group_place None reads.groups one.group),
  )
    where
      items_are : new ≡ flat_map items_of (reads.groups ++ one.group ∷ [])
      items_are = one.items_are ∙ ap (λ xs. xs ++ items_of one.group) reads.items_are ∙ sym (flat_map-push items_of reads.groups one.group)

  module _ (free : IsPrefixFree functions.proper functions.form) where
    -- where no group may follow those so far, there are no more
    pub no_more_groups : (taken count : ℕ) (before : Option Place) (items : List (Item F)) (bytes rest : List ℕ) → taken < count
        → ReadSoFar taken before items bytes rest → NoGroup functions before (length items) rest → NoGroups functions count bytes
    no_more_groups taken count before items bytes rest more (reads, last) none groups behind are same =
        let so_far = reads.are.counted in
        let all = are.counted in
        further (goes_on (is_proper_group functions) (group_form functions) (group_free functions free) reads.groups groups rest behind
        reads.are.proper are.proper (omega (arith, more, so_far, all)) (sym reads.found ∙ same))
      where
        further : (zs : List (Group F)) × (groups ≡ reads.groups ++ zs) × IsTrue (all_proper (is_proper_group functions) zs) × (rest ≡ flat_map (group_form functions) zs ++ behind) → ⊥
        further ([], is, proper, splits) =
            let ends : length groups ≡ length reads.groups = ap length (is ∙ append-nil reads.groups) in
            let so_far = reads.are.counted in
            let all = are.counted in
            absurd (omega (arith, ends, more, so_far, all))
        further (z ∷ zs, is, proper, splits) =
            none z (flat_map (group_form functions) zs ++ behind)
            (record {
              is = all_at IsGroup reads.groups z zs (subst (AllByRecursion IsGroup) is are.each);
              proper = left_law _ _ proper;
              above = subst (λ (b : Option Place). IsAbove b (group_place z)) (sym last)
                  (above_last group_place reads.groups z zs (subst (IsStrictlySortedBy group_cmp) is are.ascending));
              few =
                  let total = ap (λ gs. length (flat_map items_of gs)) is in
                  let cut = ap length (flat_map-append items_of reads.groups (z ∷ zs)) in
                  let first = length-append (flat_map items_of reads.groups) (items_of z ++ flat_map items_of zs) in
                  let second = length-append (items_of z) (flat_map items_of zs) in
                  let size = items_count z in
                  let so_far = ap length reads.items_are in
                  let few = are.few in
                  omega (arith, total, cut, first, second, size, so_far, few);
            })
            (splits ∙ append_assoc (group_form functions z) (flat_map (group_form functions) zs) behind)

  -- ---- the body
  pub no_group_count : (body : List ℕ) → NoFormInFront (fits 32) (to_le_bytes w32) body → (items : List (Item F)) → ¬ (IsGroupedBody functions items body)
  no_group_count body none items is = none (length is.groups) (flat_map (group_form functions) is.groups) (left_law _ _ is.are.proper) is.is

  module _ (body rest : List ℕ) (count : ℕ) (small : IsTrue (fits 32 count)) (found : body ≡ to_le_bytes w32 count ++ rest) where
    count_is : (items : List (Item F)) (is : IsGroupedBody functions items body) → (count ≡ length is.groups) × (rest ≡ flat_map (group_form functions) is.groups)
    count_is items is =
        parted (fits 32) (to_le_bytes w32) (fits 32) (to_le_bytes w32) four_prefix_free count (length is.groups) rest (flat_map (group_form functions) is.groups)
        small (left_law _ _ is.are.proper) (sym found ∙ is.is)

    in_order : (items : List (Item F)) (is : IsGroupedBody functions items body) → AreInOrder functions count is.groups
    in_order items is = record {
      counted = sym (count_is items is).0;
      few = is.are.few;
      ascending = is.are.ascending;
      each = is.are.each;
      proper = right_law (fits 32 (length is.groups)) _ is.are.proper;
    }

    pub nothing : count ≡ 0 → (items : List (Item F)) → ¬ (IsGroupedBody functions items body)
    nothing empty items is = let counts = (count_is items is).0 in let some = is.are.some in omega (arith, empty, counts, some)

    pub no_groups : NoGroups functions count rest → (items : List (Item F)) → ¬ (IsGroupedBody functions items body)
    no_groups none items is = none is.groups [] (in_order items is) ((count_is items is).1 ∙ sym (append-nil (flat_map (group_form functions) is.groups)))

    pub grouped_body : (items : List (Item F)) (behind : List ℕ) → count ≢ 0 → ReadsGroups functions count items rest behind → behind ≡ []
        → IsGroupedBody functions items body
    grouped_body items behind some reads ends =
        let counts = reads.are.counted in
        record {
          groups = reads.groups;
          are = record {
            some = omega (arith, counts, some);
            few = reads.are.few;
            ascending = reads.are.ascending;
            each = reads.are.each;
            proper = both (fits 32 (length reads.groups)) (all_proper (is_proper_group functions) reads.groups)
                (subst (λ n. IsTrue (fits 32 n)) (sym counts) small) reads.are.proper;
          };
          items_are = reads.items_are;
          is = found ∙ ap (λ n. to_le_bytes w32 n ++ rest) (sym counts)
              ∙ ap (λ bytes. to_le_bytes w32 (length reads.groups) ++ bytes)
              (reads.found ∙ ap (λ b. flat_map (group_form functions) reads.groups ++ b) ends ∙ append-nil (flat_map (group_form functions) reads.groups));
        }

    -- a body has nothing behind its groups
    pub nothing_behind : IsPrefixFree functions.proper functions.form → (items : List (Item F)) (behind : List ℕ) → ReadsGroups functions count items rest behind
        → ¬ (behind ≡ []) → (others : List (Item F)) → ¬ (IsGroupedBody functions others body)
    nothing_behind free items behind reads some others is =
        let counts = (count_is others is).0 in
        let so_far = reads.are.counted in
        ends (goes_on (is_proper_group functions) (group_form functions) (group_free functions free) reads.groups is.groups behind []
        reads.are.proper (in_order others is).proper (omega (arith, counts, so_far))
        (sym reads.found ∙ (count_is others is).1 ∙ sym (append-nil (flat_map (group_form functions) is.groups))))
      where
        ends : (zs : List (Group F)) × (is.groups ≡ reads.groups ++ zs) × IsTrue (all_proper (is_proper_group functions) zs) × (behind ≡ flat_map (group_form functions) zs ++ []) → ⊥
        ends ([], is_zs, p, is_behind) = some is_behind
        ends (z ∷ zs, is_zs, p, is_behind) =
            let long = ap length is_zs in
            let split = length-append reads.groups (z ∷ zs) in
            let counts = (count_is others is).0 in
            let so_far = reads.are.counted in
            absurd (omega (arith, long, split, counts, so_far))
