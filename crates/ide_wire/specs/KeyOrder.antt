-- The order of keys: each jump before each summary, then by node, then by the first fact, then by the second.
use Rattle.std.specs.Prelude.{◌≡◌, ℕ}
use Rattle.std.specs.Cmp.{IsTotalOrder, IsPartialOrder, po}
use Rattle.std.specs.Cmp.Rules.{comparing}
use Rattle.std.specs.Ordering.{nat_cmp, on, then_cmp, as_partial_cmp, ordering_then, ordering_reverse, is_eq}
use Rattle.std.proofs.Common.{ap, sym, refl, ◌∙◌, arith, rules}
use Rattle.std.proofs.lemmas.Bool.Decides.{nat_tests}
use Rattle.ide_wire.specs.Key.{same_key, node_of}
use Rattle.std.specs.declared.cmp.Ordering.{Ordering}
use Rattle.std.specs.declared.cmp.Ordering.TheVariants.{Less, Greater}
use Rattle.ide_wire.specs.declared.key.Key.{Key}
use Rattle.ide_wire.specs.declared.key.Key.TheVariants.{Jump, Summary}

-- how keys of one kind compare: by node, then by the first fact, then by the second
abbrev pub numbers_cmp : (node first second : ℕ) → (node first second : ℕ) → Ordering
numbers_cmp n a b m c d = ordering_then (nat_cmp n m) (ordering_then (nat_cmp a c) (nat_cmp b d))

-- how keys compare
abbrev pub key_cmp : Key → Key → Ordering
key_cmp (Jump n a b) (Jump m c d) = numbers_cmp n a b m c d
key_cmp (Jump n a b) (Summary m c d) = Less
key_cmp (Summary n a b) (Jump m c d) = Greater
key_cmp (Summary n a b) (Summary m c d) = numbers_cmp n a b m c d

-- the same order as one field after the other is compared, of which the first is the kind
abbrev kind_of : Key → ℕ
kind_of (Jump n a b) = 0
kind_of (Summary n a b) = 1

abbrev first_of : Key → ℕ
first_of (Jump n a b) = a
first_of (Summary n a b) = a

abbrev second_of : Key → ℕ
second_of (Jump n a b) = b
second_of (Summary n a b) = b

abbrev fields_cmp : Key → Key → Ordering
fields_cmp =
    then_cmp (on kind_of nat_cmp) (then_cmp (on node_of nat_cmp) (then_cmp (on first_of nat_cmp) (on second_of nat_cmp)))

fields_cmp_total : IsTotalOrder fields_cmp
fields_cmp_total = search (comparing, rules)

by_fields : (x y : Key) → key_cmp x y ≡ fields_cmp x y
by_fields (Jump n a b) (Jump m c d) = refl
by_fields (Jump n a b) (Summary m c d) = refl
by_fields (Summary n a b) (Jump m c d) = refl
by_fields (Summary n a b) (Summary m c d) = refl

pub key_cmp_total : IsTotalOrder key_cmp
key_cmp_total = record {
  antisymm = λ x y. by_fields x y ∙ fields_cmp_total.antisymm x y ∙ ap ordering_reverse (sym (by_fields y x));
  trans = λ x y z p q.
      by_fields x z ∙ fields_cmp_total.trans x y z (sym (by_fields x y) ∙ p) (sym (by_fields y z) ∙ q);
  congr = λ x y z p.
      by_fields x z ∙ fields_cmp_total.congr x y z (sym (by_fields x y) ∙ p) ∙ sym (by_fields y z);
}

-- two keys are the same exactly where they compare as equal
pub key_cmp_equal : (x y : Key) → same_key x y ≡ is_eq (key_cmp x y)
key_cmp_equal (Jump n a b) (Jump m c d) = grind (arith, nat_tests)
key_cmp_equal (Jump n a b) (Summary m c d) = refl
key_cmp_equal (Summary n a b) (Jump m c d) = refl
key_cmp_equal (Summary n a b) (Summary m c d) = grind (arith, nat_tests)

pub key_cmp_partial : IsPartialOrder same_key (as_partial_cmp key_cmp)
key_cmp_partial = po key_cmp_total key_cmp_equal
