-- That bodies are told apart, from the small to the large: counted lists, groups, and bodies.
use Rattle.std.specs.Prelude.{◌≡◌, ℕ, Bool, List, [], ◌∷◌, ◌++◌, length, take, IsTrue}
use Rattle.std.specs.Int.{w32, to_le_bytes}
use Rattle.std.specs.List.{flat_map}
use Rattle.std.proofs.Common.{ap, sym, refl, ◌∙◌, arith, append_assoc, append-nil}
use Rattle.std.proofs.lemmas.List.{length-append, take_at}
use Rattle.ide_journal.specs.declared.version.Version.{Version}
use Rattle.ide_journal.specs.declared.version.Version.TheVariants.{One, Two}
use Rattle.ide_wire.specs.Form.{IsPrefixFree}
use Rattle.ide_wire.specs.Numbers.{fits, four_prefix_free}
use Rattle.ide_batch.specs.Bodies.{AreSpelled}
use Rattle.ide_batch.specs.Forms.{all_proper, is_countable, counted}
use Rattle.ide_batch.specs.FormLaws.{left_law, right_law, both, parted, pair_free, item_free, member_free}
use Rattle.ide_batch.specs.Groups.{Group, IsGroupedBody, group_form, is_proper_group, member_form, is_proper_member, items_of}
use Rattle.ide_batch.specs.Items.{Functions, Item, IsListBody, item_form, is_proper_item}
use Rattle.ide_batch.specs.Laws.{BodiesAreApart}
use Rattle.ide_batch.specs.Records.{Load, Root, Batch}
use Rattle.ide_batch.proofs.Headers.{is_proper_place, place_form, place_free}
use Rattle.ide_batch.proofs.ListBody.{small_count}
use Rattle.ide_batch.proofs.Lists.{goes_on}

module _ {T : Type 0} (proper : T → Bool) (form : T → List ℕ) (free : IsPrefixFree proper form) where
  -- counted lists are told apart where their things are
  pub counted_free : IsPrefixFree (is_countable proper) (counted form)
  counted_free xs ys r s p q same =
      let cut = parted (fits 32) (to_le_bytes w32) (fits 32) (to_le_bytes w32) four_prefix_free (length xs) (length ys) (flat_map form xs ++ r) (flat_map form ys ++ s)
      (left_law (fits 32 (length xs)) (all_proper proper xs) p) (left_law (fits 32 (length ys)) (all_proper proper ys) q)
      (sym (append_assoc (to_le_bytes w32 (length xs)) (flat_map form xs) r) ∙ same ∙ append_assoc (to_le_bytes w32 (length ys)) (flat_map form ys) s) in
      ends (goes_on proper form free xs ys r s (right_law (fits 32 (length xs)) (all_proper proper xs) p) (right_law (fits 32 (length ys)) (all_proper proper ys) q)
      (omega (arith, cut.0)) cut.1) cut.0
    where
      longer : (z : T) (zs : List T) → length ys ≡ length (xs ++ z ∷ zs) → length xs ≡ length ys → ⊥
      longer z zs a b = grind (arith, length-append xs (z ∷ zs), a, b)

      ends : (zs : List T) × (ys ≡ xs ++ zs) × IsTrue (all_proper proper zs) × (r ≡ flat_map form zs ++ s) → length xs ≡ length ys → xs ≡ ys
      ends ([], is, p, is_behind) long = sym (is ∙ append-nil xs)
      ends (z ∷ zs, is, p, is_behind) long = absurd (longer z zs (ap length is) long)

same_group : {F : Type 0} (x y : Group F) → x.kind ≡ y.kind → x.node ≡ y.node → x.members ≡ y.members → x ≡ y
same_group x y kind node members = λ i. record { kind = kind i; node = node i; members = members i }

module _ {F : Type 0} (functions : Functions F) (free : IsPrefixFree functions.proper functions.form) where
  pub group_free : IsPrefixFree (is_proper_group functions) (group_form functions)
  group_free x y r s p q same =
      let cut = pair_free is_proper_place place_form
      (is_countable (is_proper_member functions)) (counted (member_form functions)) place_free (counted_free (is_proper_member functions) (member_form functions) (member_free functions free))
      (x.kind, x.node) (y.kind, y.node) x.members y.members r s p q same in
      same_group x y (ap (λ (t : ℕ × ℕ). t.0) cut.0) (ap (λ (t : ℕ × ℕ). t.1) cut.0) cut.1

  pub listed_apart : (xs ys : List (Item F)) (a b r s : List ℕ) → IsListBody functions xs a → IsListBody functions ys b → a ++ r ≡ b ++ s → xs ≡ ys
  listed_apart xs ys a b r s p q same =
      counted_free (is_proper_item functions) (item_form functions) (item_free functions free) xs ys r s
      (both (fits 32 (length xs)) (all_proper (is_proper_item functions) xs) (small_count (length xs) p.written.few) p.written.proper)
      (both (fits 32 (length ys)) (all_proper (is_proper_item functions) ys) (small_count (length ys) q.written.few) q.written.proper)
      (ap (λ z. z ++ r) (sym p.is) ∙ same ∙ ap (λ z. z ++ s) q.is)

  pub grouped_apart : (xs ys : List (Item F)) (a b r s : List ℕ) → IsGroupedBody functions xs a → IsGroupedBody functions ys b → a ++ r ≡ b ++ s → xs ≡ ys
  grouped_apart xs ys a b r s p q same =
      let groups : p.groups ≡ q.groups = counted_free (is_proper_group functions) (group_form functions) group_free p.groups q.groups r s
      p.are.proper q.are.proper (ap (λ z. z ++ r) (sym p.is) ∙ same ∙ ap (λ z. z ++ s) q.is) in
      p.items_are ∙ ap (flat_map items_of) groups ∙ sym q.items_are

  pub spelled_apart : (version : Version) (xs ys : List (Item F)) (a b r s : List ℕ) → AreSpelled functions version xs a → AreSpelled functions version ys b
      → a ++ r ≡ b ++ s → xs ≡ ys
  spelled_apart One = listed_apart
  spelled_apart Two = grouped_apart

  fronts : (a b r s : List ℕ) → length a ≡ length b → a ++ r ≡ b ++ s → a ≡ b
  fronts a b r s long same = sym (take_at a r (length b) long) ∙ ap (take (length b)) same ∙ take_at b s (length b) refl

  pub apart : BodiesAreApart functions
  apart version (Load x) (Load y) a b r s kind p q long same = ap (λ t. Load t) (sym p ∙ fronts a b r s long same ∙ q)
  apart version (Root x) (Root y) a b r s kind p q long same = ap (λ t. Root t) (sym p ∙ fronts a b r s long same ∙ q)
  apart version (Batch x) (Batch y) a b r s kind p q long same = ap (λ t. Batch t) (spelled_apart version x y a b r s p q same)
  apart version (Load x) (Root y) a b r s kind p q long same = absurd (omega (arith, kind))
  apart version (Load x) (Batch y) a b r s kind p q long same = absurd (omega (arith, kind))
  apart version (Root x) (Load y) a b r s kind p q long same = absurd (omega (arith, kind))
  apart version (Root x) (Batch y) a b r s kind p q long same = absurd (omega (arith, kind))
  apart version (Batch x) (Load y) a b r s kind p q long same = absurd (omega (arith, kind))
  apart version (Batch x) (Root y) a b r s kind p q long same = absurd (omega (arith, kind))
