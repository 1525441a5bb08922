-- When two keys are the same: the answer of the code's `==`, by which maps and sets of keys work.
use Rattle.std.specs.Prelude.{◌≡◌, ℕ, ◌≤◌, Bool, true, ◌&&◌, List, ◌∷◌, ◌++◌, ◌-◌, length, take, drop, IsTrue}
use Rattle.std.specs.Int.{w16, w32, to_le_bytes}
use Rattle.std.specs.Cmp.{IsEquivalence}
use Rattle.std.proofs.Common.{ap, sym, ◌∙◌, arith, lit≤}
use Rattle.std.proofs.lemmas.Bool.Decides.{nat_tests}
use Rattle.std.proofs.lemmas.List.{length-drop}
use Rattle.std.proofs.Math.Seq.{take-length}
use Rattle.ide_wire.specs.Form.{IsPrefixFree, NoFormInFront}
use Rattle.ide_wire.specs.Numbers.{fits, two_prefix_free, four_prefix_free}
use Rattle.ide_wire.specs.declared.key.Key.{Key}
use Rattle.ide_wire.specs.declared.key.Key.TheVariants.{Jump, Summary}
use Rattle.ide_wire.specs.contracts.key.KeyPartialEq.TheImpl.{ghosts as key_partial_eq}

-- whether two keys are the same
abbrev pub same_key : Key → Key → Bool
same_key = key_partial_eq.eq

pub same_key_exact : (x y : Key) → same_key x y ≡ true → x ≡ y
same_key_exact (Jump n a b) (Jump m c d) h = grind (arith, nat_tests)
same_key_exact (Jump n a b) (Summary m c d) h = grind (arith, nat_tests)
same_key_exact (Summary n a b) (Jump m c d) h = grind (arith, nat_tests)
same_key_exact (Summary n a b) (Summary m c d) h = grind (arith, nat_tests)

pub same_key_refl : (x : Key) → same_key x x ≡ true
same_key_refl (Jump n a b) = grind (arith, nat_tests)
same_key_refl (Summary n a b) = grind (arith, nat_tests)

pub same_key_symm : (x y : Key) → same_key x y ≡ same_key y x
same_key_symm (Jump n a b) (Jump m c d) = grind (arith, nat_tests)
same_key_symm (Jump n a b) (Summary m c d) = grind (arith, nat_tests)
same_key_symm (Summary n a b) (Jump m c d) = grind (arith, nat_tests)
same_key_symm (Summary n a b) (Summary m c d) = grind (arith, nat_tests)

-- of two keys that are the same, each is the same as a third where the other is
pub same_key_congr : (x y z : Key) → same_key x y ≡ true → same_key x z ≡ same_key y z
same_key_congr x y z h = ap (λ w. same_key w z) (same_key_exact x y h)

pub same_key_laws : IsEquivalence same_key
same_key_laws = record { refl = same_key_refl; symm = same_key_symm; congr = same_key_congr }

-- the node that a key stands at: of a summary its call node
abbrev pub node_of : Key → ℕ
node_of (Jump n a b) = n
node_of (Summary c a b) = c

-- the coded form of a key: its kind, then its node and its two facts
abbrev pub key_form : Key → List ℕ
key_form (Jump n a b) = 0 ∷ to_le_bytes w32 n ++ to_le_bytes w16 a ++ to_le_bytes w16 b
key_form (Summary c a b) = 1 ∷ to_le_bytes w32 c ++ to_le_bytes w16 a ++ to_le_bytes w16 b

-- its numbers fit their types
abbrev pub is_proper_key : Key → Bool
is_proper_key (Jump n a b) = fits 32 n && fits 16 a && fits 16 b
is_proper_key (Summary c a b) = fits 32 c && fits 16 a && fits 16 b

-- three numbers that are coded one after the other are told apart
pub numbers_free : (n a b m c d : ℕ) (r s : List ℕ)
    → IsTrue (fits 32 n && fits 16 a && fits 16 b) → IsTrue (fits 32 m && fits 16 c && fits 16 d)
    → (to_le_bytes w32 n ++ to_le_bytes w16 a ++ to_le_bytes w16 b) ++ r ≡ (to_le_bytes w32 m ++ to_le_bytes w16 c ++ to_le_bytes w16 d) ++ s
    → (n ≡ m) × (a ≡ c) × (b ≡ d)
numbers_free n a b m c d r s p q same = (
  four_prefix_free n m (to_le_bytes w16 a ++ to_le_bytes w16 b ++ r) (to_le_bytes w16 c ++ to_le_bytes w16 d ++ s)
      (grind (arith, nat_tests)) (grind (arith, nat_tests)) same,
  two_prefix_free a c (to_le_bytes w16 b ++ r) (to_le_bytes w16 d ++ s)
      (grind (arith, nat_tests)) (grind (arith, nat_tests)) (ap (drop 4) same),
  two_prefix_free b d r s
      (grind (arith, nat_tests)) (grind (arith, nat_tests)) (ap (drop 6) same),
)

pub key_prefix_free : IsPrefixFree is_proper_key key_form
key_prefix_free (Jump n a b) (Jump m c d) r s p q same =
    let same_numbers = numbers_free n a b m c d r s p q (ap (drop 1) same) in
    cc (same_numbers.0, same_numbers.1, same_numbers.2)
key_prefix_free (Jump n a b) (Summary m c d) r s p q same = cc (same)
key_prefix_free (Summary n a b) (Jump m c d) r s p q same = cc (same)
key_prefix_free (Summary n a b) (Summary m c d) r s p q same =
    let same_numbers = numbers_free n a b m c d r s p q (ap (drop 1) same) in
    cc (same_numbers.0, same_numbers.1, same_numbers.2)

pub key_not_empty : (k : Key) → 1 ≤ length (key_form k)
key_not_empty (Jump n a b) = lit≤ tt
key_not_empty (Summary c a b) = lit≤ tt

pub key_at_most : (k : Key) → length (key_form k) ≤ 9
key_at_most (Jump n a b) = lit≤ tt
key_at_most (Summary c a b) = lit≤ tt

-- the slice of a list from a place on
pub slice_from : (place : ℕ) (xs : List ℕ) → take (length xs - place) (drop place xs) ≡ drop place xs
slice_from place xs = ap (λ k. take k (drop place xs)) (sym (length-drop place xs)) ∙ take-length (drop place xs)

-- where no number stands at the place of a key's first fact, or of its second, no key stands in front
pub no_first_fact : (bytes numbers : List ℕ) (kind : ℕ) → bytes ≡ kind ∷ numbers
    → NoFormInFront (fits 16) (to_le_bytes w16) (take (length numbers - 4) (drop 4 numbers)) → NoFormInFront is_proper_key key_form bytes
no_first_fact bytes numbers kind is none (Jump n a b) rest p same =
    none a (to_le_bytes w16 b ++ rest) (grind (arith, nat_tests)) (slice_from 4 numbers ∙ ap (drop 5) (sym is ∙ same))
no_first_fact bytes numbers kind is none (Summary n a b) rest p same =
    none a (to_le_bytes w16 b ++ rest) (grind (arith, nat_tests)) (slice_from 4 numbers ∙ ap (drop 5) (sym is ∙ same))

pub no_second_fact : (bytes numbers : List ℕ) (kind : ℕ) → bytes ≡ kind ∷ numbers
    → NoFormInFront (fits 16) (to_le_bytes w16) (take (length numbers - 6) (drop 6 numbers)) → NoFormInFront is_proper_key key_form bytes
no_second_fact bytes numbers kind is none (Jump n a b) rest p same =
    none b rest (grind (arith, nat_tests)) (slice_from 6 numbers ∙ ap (drop 7) (sym is ∙ same))
no_second_fact bytes numbers kind is none (Summary n a b) rest p same =
    none b rest (grind (arith, nat_tests)) (slice_from 6 numbers ∙ ap (drop 7) (sym is ∙ same))
