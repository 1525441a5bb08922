-- Members that are read from the front of bytes, one more at a time.
use Rattle.std.specs.Prelude.{◌≡◌, ℕ, ◌+◌, ◌<◌, List, [], ◌∷◌, ◌++◌, Option, Some, None, map, IsTrue}
use Rattle.std.specs.List.Sorted.{IsStrictlySortedBy}
use Rattle.std.proofs.Common.{ap, sym, subst, refl, ◌∙◌, arith, append_assoc, append-nil}
use Rattle.std.proofs.lemmas.List.{length-append, map-append}
use Rattle.ide_wire.specs.Form.{IsPrefixFree, NoFormInFront}
use Rattle.ide_wire.specs.declared.key.Key.{Key}
use Rattle.ide_batch.specs.FormLaws.{member_free}
use Rattle.ide_batch.specs.Groups.{Member, is_proper_member, key_of_kind, member_cmp, member_form}
use Rattle.ide_batch.specs.GroupsRead.{IsAbove, NoMembers, Place, ReadsMembers, last_place, member_place}
use Rattle.ide_batch.specs.Items.{Functions, Item}
use Rattle.ide_batch.proofs.Lists.{forms-push, goes_on, none_longer, proper-push}
use Rattle.ide_batch.proofs.Places.{above_last, last-push, sorted-push}

-- the item of a member of that place
abbrev pub item_at : {F : Type 0} → Place → Member F → Item F
item_at place member = (key_of_kind place.0 place.1 member.0 member.1, member.2, member.3)

module _ {F : Type 0} (functions : Functions F) (place : Place) where
  -- so many members are read, of which the last is at that place
  abbrev pub ReadSoFar : ℕ → Option Place → (old new : List (Item F)) → (bytes rest : List ℕ) → Type 0
  ReadSoFar taken before old new bytes rest =
      (reads : ReadsMembers functions place taken old new bytes rest) × (before ≡ last_place member_place None reads.members)

  pub members_none : (old : List (Item F)) (bytes : List ℕ) → ReadSoFar 0 None old old bytes bytes
  unfolding IsStrictlySortedBy
  members_none old bytes =
      (record { members = []; are = record { counted = refl; proper = refl; ascending = tt }; found = refl; items_are = sym (append-nil old) }, refl)

  pub members-push : (taken first second : ℕ) (before : Option Place) (old new pushed : List (Item F)) (bytes rest behind : List ℕ) (member : Member F) (key : Key)
      → ReadSoFar taken before old new bytes rest → IsTrue (is_proper_member functions member) → rest ≡ member_form functions member ++ behind
      → first ≡ member.0 → second ≡ member.1 → IsAbove before (first, second)
      → key ≡ key_of_kind place.0 place.1 member.0 member.1 → pushed ≡ new ++ (key, member.2, member.3) ∷ []
      → ReadSoFar (taken + 1) (Some (first, second)) old pushed bytes behind
  members-push taken first second before old new pushed bytes rest behind member key (reads, last) proper found one two above is_key is_pushed = (
    record {
      members = reads.members ++ member ∷ [];
      are = record {
        counted = let more = length-append reads.members (member ∷ []) in let so_far = reads.are.counted in omega (arith, more, so_far);
        proper = proper-push (is_proper_member functions) (member_form functions) reads.members member reads.are.proper proper;
        ascending = sorted-push member_place reads.members member reads.are.ascending
            (subst (IsAbove (last_place member_place None reads.members)) same (subst (λ (b : Option Place). IsAbove b (first, second)) last above));
      };
      found = forms-push (is_proper_member functions) (member_form functions) reads.members member bytes rest behind reads.found found;
      items_are =
          is_pushed
          ∙ ap (λ k. new ++ (k, member.2, member.3) ∷ []) is_key
          ∙ ap (λ items. items ++ item_at place member ∷ []) reads.items_are
          ∙ append_assoc old (map (item_at place) reads.members) (item_at place member ∷ [])
          ∙ ap (λ items. old ++ items) (sym (map-append (item_at place) reads.members (member ∷ [])));
    },
    ap (λ (p : Place). Some p) same ∙ sym (last-push member_place None reads.members member),
  )
    where
      same : ◌≡◌ {A = Place} (first, second) (member_place member)
      same = λ i. (one i, two i)

  module _ (free : IsPrefixFree functions.proper functions.form) where
    -- where no member stands behind those so far, there are no more
    pub no_more_members : (taken count : ℕ) (before : Option Place) (old new : List (Item F)) (bytes rest : List ℕ) → taken < count
        → ReadSoFar taken before old new bytes rest → NoFormInFront (is_proper_member functions) (member_form functions) rest → NoMembers functions count bytes
    no_more_members taken count before old new bytes rest more (reads, last) none members behind are same =
        let so_far = reads.are.counted in
        none_longer (is_proper_member functions) (member_form functions) (member_free functions free) reads.members bytes rest count reads.are.proper
        (omega (arith, more, so_far)) reads.found none members behind are.counted are.proper same

    -- nor where the next one is not above the last
    pub no_member_above : (taken count : ℕ) (before : Option Place) (old new : List (Item F)) (bytes rest next : List ℕ) (member : Member F) (first second : ℕ) → taken < count
        → ReadSoFar taken before old new bytes rest → IsTrue (is_proper_member functions member) → rest ≡ member_form functions member ++ next
        → first ≡ member.0 → second ≡ member.1 → ¬ (IsAbove before (first, second)) → NoMembers functions count bytes
    no_member_above taken count before old new bytes rest next member first second more (reads, last) proper found one two not_above members behind are same =
        let longer = length-append reads.members (member ∷ []) in
        let so_far = reads.are.counted in
        let all = are.counted in
        let goes = goes_on (is_proper_member functions) (member_form functions) (member_free functions free) (reads.members ++ member ∷ []) members next behind
        (proper-push (is_proper_member functions) (member_form functions) reads.members member reads.are.proper proper) are.proper
        (omega (arith, more, so_far, longer, all))
        (sym (forms-push (is_proper_member functions) (member_form functions) reads.members member bytes rest next reads.found found) ∙ same) in
        let place_is : ◌≡◌ {A = Place} (member_place member) (first, second) = λ i. (sym one i, sym two i) in
        not_above (subst (IsAbove before) place_is (subst (λ (b : Option Place). IsAbove b (member_place member)) (sym last)
        (above_last member_place reads.members member goes.0
        (subst (IsStrictlySortedBy member_cmp) (goes.1 ∙ append_assoc reads.members (member ∷ []) goes.0) are.ascending))))
