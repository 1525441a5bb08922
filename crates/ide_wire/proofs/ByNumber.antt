-- Keys compare by their kinds, and where these are the same, by their numbers put together in one.
use Rattle.std.proofs.Common.{◌≡◌, refl, arith}
use Rattle.std.proofs.lemmas.Bool.Decides.{nat_tests}
use Rattle.std.specs.Ordering.{nat_cmp, ordering_then}
use Rattle.ide_wire.specs.KeyNumber.{HasFacts, key_kind, key_number}
use Rattle.ide_wire.specs.KeyOrder.{key_cmp}
use Rattle.ide_wire.specs.declared.key.Key.{Key}
use Rattle.ide_wire.specs.declared.key.Key.TheVariants.{Jump, Summary}

pub by-number : (x y : Key) → HasFacts x → HasFacts y
    → ordering_then (nat_cmp (key_kind x) (key_kind y)) (nat_cmp (key_number x) (key_number y)) ≡ key_cmp x y
by-number (Jump n a b) (Jump m c d) low other = let x = low.0 in let y = low.1 in let z = other.0 in let w = other.1 in grind (arith, nat_tests)
by-number (Jump n a b) (Summary m c d) low other = refl
by-number (Summary n a b) (Jump m c d) low other = refl
by-number (Summary n a b) (Summary m c d) low other = let x = low.0 in let y = low.1 in let z = other.0 in let w = other.1 in grind (arith, nat_tests)
