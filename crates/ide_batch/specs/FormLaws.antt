-- That forms are told apart: of two forms one after the other, of items, and of members of groups.
use Rattle.std.specs.Prelude.{◌≡◌, ◌≢◌, ℕ, Bool, true, false, not, ◌&&◌, get_or, List, [], ◌∷◌, ◌++◌, IsTrue}
use Rattle.std.specs.Int.{w16, to_le_bytes}
use Rattle.std.proofs.Common.{ap, sym, refl, ◌∙◌, arith, append_assoc}
use Rattle.std.proofs.lemmas.List.{append_cancel_left}
use Rattle.std.proofs.lemmas.Bool.Decides.{nat_tests}
use Rattle.ide_wire.specs.Form.{IsPrefixFree, NoFormInFront}
use Rattle.ide_wire.specs.Key.{key_form, is_proper_key, key_prefix_free}
use Rattle.ide_wire.specs.Numbers.{fits, two_prefix_free}
use Rattle.ide_wire.specs.declared.key.Key.{Key}
use Rattle.ide_batch.specs.Groups.{is_proper_member, member_form}
use Rattle.ide_batch.specs.Items.{Functions, mark, entry_form, is_proper_entry, item_form, is_proper_item}

pub left_law : (a b : Bool) → IsTrue (a && b) → IsTrue a
left_law a b h = grind (arith, nat_tests)

pub right_law : (a b : Bool) → IsTrue (a && b) → IsTrue b
right_law a b h = grind (arith, nat_tests)

pub both : (a b : Bool) → IsTrue a → IsTrue b → IsTrue (a && b)
both a b h k = grind (arith, nat_tests)

module _ {A B : Type 0} (p : A → Bool) (f : A → List ℕ) (q : B → Bool) (g : B → List ℕ) (free : IsPrefixFree p f) where
  -- of a form and another behind it, the first ones are one, and then the rests
  pub parted : (a c : A) (b d : List ℕ) → IsTrue (p a) → IsTrue (p c) → f a ++ b ≡ f c ++ d → (a ≡ c) × (b ≡ d)
  parted a c b d pa pc same =
      let one : a ≡ c = free a c b d pa pc same in
      (one, append_cancel_left (f a) b d (same ∙ ap (λ x. f x ++ d) (sym one)))

  -- where the first is none, or what is behind it, both are none
  pub first_none : (bytes : List ℕ) → NoFormInFront p f bytes
      → (a : A) (b : B) (rest : List ℕ) → IsTrue (p a && q b) → bytes ≡ (f a ++ g b) ++ rest → ⊥
  first_none bytes none a b rest proper is = none a (g b ++ rest) (left_law (p a) (q b) proper) (is ∙ append_assoc (f a) (g b) rest)

  pub second_none : (bytes : List ℕ) (x : A) (behind : List ℕ) → IsTrue (p x) → bytes ≡ f x ++ behind → NoFormInFront q g behind
      → (a : A) (b : B) (rest : List ℕ) → IsTrue (p a && q b) → bytes ≡ (f a ++ g b) ++ rest → ⊥
  second_none bytes x behind px found none a b rest proper is =
      none b rest (right_law (p a) (q b) proper)
      (parted x a behind (g b ++ rest) px (left_law (p a) (q b) proper) (sym found ∙ is ∙ append_assoc (f a) (g b) rest)).1

  -- and pairs are told apart where the second ones are
  pub pair_free : IsPrefixFree q g → (a c : A) (b d : B) (r s : List ℕ) → IsTrue (p a && q b) → IsTrue (p c && q d)
      → (f a ++ g b) ++ r ≡ (f c ++ g d) ++ s → (a ≡ c) × (b ≡ d)
  pair_free free_too a c b d r s x y same =
      let cut = parted a c (g b ++ r) (g d ++ s) (left_law (p a) (q b) x) (left_law (p c) (q d) y)
      (sym (append_assoc (f a) (g b) r) ∙ same ∙ append_assoc (f c) (g d) s) in
      (cut.0, free_too b d r s (right_law (p a) (q b) x) (right_law (p c) (q d) y) cut.1)

same_pair : {A B : Type 0} (x y : A × B) → x.0 ≡ y.0 → x.1 ≡ y.1 → x ≡ y
same_pair (a, b) (c, d) first second = cc (first, second)

same_item : {A B C : Type 0} (x y : A × B × C) → x.0 ≡ y.0 → x.1 ≡ y.1 → x.2 ≡ y.2 → x ≡ y
same_item (a, b, c) (d, e, f) first second third = cc (first, second, third)

same_member : {A B C D : Type 0} (x y : A × B × C × D) → x.0 ≡ y.0 → x.1 ≡ y.1 → x.2 ≡ y.2 → x.3 ≡ y.3 → x ≡ y
same_member (a, b, c, d) (e, f, g, h) first second third fourth = cc (first, second, third, fourth)

pub mark_free : IsPrefixFree (λ b. true) mark
mark_free true true r s p q same = refl
mark_free true false r s p q same = cc (same)
mark_free false true r s p q same = cc (same)
mark_free false false r s p q same = refl

-- no mark stands in front of nothing, nor of another byte
pub no_mark_at_end : (bytes : List ℕ) → bytes ≡ [] → NoFormInFront (λ b. true) mark bytes
no_mark_at_end bytes is true rest p same = cc (is, same)
no_mark_at_end bytes is false rest p same = cc (is, same)

pub no_other_mark : (bytes behind : List ℕ) (m : ℕ) → bytes ≡ m ∷ behind → m ≢ 0 → m ≢ 1 → NoFormInFront (λ b. true) mark bytes
no_other_mark bytes behind m is not_zero not_one true rest p same = not_one (ap (λ xs. get_or xs 0 0) (sym is ∙ same))
no_other_mark bytes behind m is not_zero not_one false rest p same = not_zero (ap (λ xs. get_or xs 0 0) (sym is ∙ same))

module _ {F : Type 0} (functions : Functions F) (free : IsPrefixFree functions.proper functions.form) where
  -- where a function stands in front, and behind it no mark, or it is always top, no key has that
  pub no_marked : (bytes : List ℕ) (f : F) (behind : List ℕ) → IsTrue (functions.proper f) → bytes ≡ functions.form f ++ behind
      → NoFormInFront (λ b. true) mark behind → NoFormInFront (is_proper_entry functions) (entry_form functions) bytes
  no_marked bytes f behind proper found none x rest p same =
      second_none functions.proper functions.form (λ b. true) mark free bytes f behind proper found none x.0 x.1 rest
      (both (functions.proper x.0) true (left_law (functions.proper x.0) (not (functions.is_top x.0)) p) refl) same

  pub no_top : (bytes : List ℕ) (f : F) (behind : List ℕ) → IsTrue (functions.proper f) → bytes ≡ functions.form f ++ behind
      → functions.is_top f ≡ true → NoFormInFront (is_proper_entry functions) (entry_form functions) bytes
  no_top bytes f behind proper found top x rest p same =
      let one : f ≡ x.0 = (parted functions.proper functions.form (λ b. true) mark free f x.0 behind (mark x.1 ++ rest) proper
      (left_law (functions.proper x.0) (not (functions.is_top x.0)) p) (sym found ∙ same ∙ append_assoc (functions.form x.0) (mark x.1) rest)).0 in
      let high : functions.is_top x.0 ≡ true = ap functions.is_top (sym one) ∙ top in
      let low : IsTrue (not (functions.is_top x.0)) = right_law (functions.proper x.0) (not (functions.is_top x.0)) p in
      grind (arith, nat_tests, high, low)

  -- where a key stands in front, and behind it not what a key has, there is no item
  pub no_item : (bytes : List ℕ) (key : Key) (behind : List ℕ) → IsTrue (is_proper_key key) → bytes ≡ key_form key ++ behind
      → NoFormInFront (is_proper_entry functions) (entry_form functions) behind → NoFormInFront (is_proper_item functions) (item_form functions) bytes
  no_item bytes key behind proper found none x rest p same =
      second_none is_proper_key key_form (is_proper_entry functions) (entry_form functions) key_prefix_free bytes key behind proper found none
      x.0 (x.1, x.2) rest p same

  pub entry_free : IsPrefixFree (is_proper_entry functions) (entry_form functions)
  entry_free x y r s p q same =
      let cut = pair_free functions.proper functions.form (λ b. true) mark free mark_free x.0 y.0 x.1 y.1 r s
      (both (functions.proper x.0) true (left_law _ _ p) refl) (both (functions.proper y.0) true (left_law _ _ q) refl) same in
      same_pair x y cut.0 cut.1

  pub item_free : IsPrefixFree (is_proper_item functions) (item_form functions)
  item_free x y r s p q same =
      let cut = pair_free is_proper_key key_form (is_proper_entry functions) (entry_form functions) key_prefix_free entry_free x.0 y.0 (x.1, x.2) (y.1, y.2) r s p q same in
      let first : x.0 ≡ y.0 = cut.0 in
      let second : x.1 ≡ y.1 = ap (λ (t : F × Bool). t.0) cut.1 in
      let third : x.2 ≡ y.2 = ap (λ (t : F × Bool). t.1) cut.1 in
      same_item x y first second third

-- the two facts of a member
abbrev facts_form : ℕ × ℕ → List ℕ
facts_form facts = to_le_bytes w16 facts.0 ++ to_le_bytes w16 facts.1

abbrev are_proper_facts : ℕ × ℕ → Bool
are_proper_facts facts = fits 16 facts.0 && fits 16 facts.1

facts_free : IsPrefixFree are_proper_facts facts_form
facts_free x y r s p q same =
    let cut = pair_free (fits 16) (to_le_bytes w16) (fits 16) (to_le_bytes w16) two_prefix_free two_prefix_free x.0 y.0 x.1 y.1 r s p q same in
    same_pair x y cut.0 cut.1

module _ {F : Type 0} (functions : Functions F) (free : IsPrefixFree functions.proper functions.form) where
  pub member_free : IsPrefixFree (is_proper_member functions) (member_form functions)
  member_free x y r s p q same =
      let cut = pair_free are_proper_facts facts_form (is_proper_entry functions) (entry_form functions) facts_free (entry_free functions free)
      (x.0, x.1) (y.0, y.1) (x.2, x.3) (y.2, y.3) r s p q same in
      same_member x y (ap (λ (t : ℕ × ℕ). t.0) cut.0) (ap (λ (t : ℕ × ℕ). t.1) cut.0) (ap (λ (t : F × Bool). t.0) cut.1) (ap (λ (t : F × Bool). t.1) cut.1)

  -- where two facts stand in front, and behind them not what a key has, there is no member
  pub no_member : (bytes : List ℕ) (first second : ℕ) (between behind : List ℕ) → IsTrue (fits 16 first) → IsTrue (fits 16 second)
      → bytes ≡ to_le_bytes w16 first ++ between → between ≡ to_le_bytes w16 second ++ behind
      → NoFormInFront (is_proper_entry functions) (entry_form functions) behind → NoFormInFront (is_proper_member functions) (member_form functions) bytes
  no_member bytes first second between behind small small_too found found_too none m rest p same =
      second_none are_proper_facts facts_form (is_proper_entry functions) (entry_form functions) facts_free bytes (first, second) behind
      (both (fits 16 first) (fits 16 second) small small_too)
      (found ∙ ap (λ b. to_le_bytes w16 first ++ b) found_too ∙ sym (append_assoc (to_le_bytes w16 first) (to_le_bytes w16 second) behind))
      none (m.0, m.1) (m.2, m.3) rest p same
