-- The constants are a lattice, and their `==` is equality.
use Rattle.std.specs.Prelude.{◌≡◌, ◌≢◌, ◌<◌, ◌≤◌, true, IsTrue}
use Rattle.std.proofs.Common.{refl, ap, arith}
use Rattle.std.proofs.lemmas.Bool.Decides.{nat_tests}
use Rattle.ide_lattice.specs.Laws.{IsLattice}
use Rattle.ide_instances.specs.ConstValue.{const_algebra, meet_constants, constant_rank, is_proper}
use Rattle.ide_instances.specs.declared.const_value.ConstValue.{ConstValue}
use Rattle.ide_instances.specs.declared.const_value.ConstValue.TheVariants.{Top, Const, Bottom}
use Rattle.ide_instances.specs.contracts.const_value.ConstValuePartialEq.TheImpl.{ghosts as value_eq}

proper-meet : (x y : ConstValue) → IsTrue (is_proper x) → IsTrue (is_proper y) → IsTrue (is_proper (meet_constants x y))
proper-meet Top y p q = q
proper-meet Bottom y p q = refl
proper-meet (Const k) Top p q = p
proper-meet (Const k) (Const l) p q = grind (arith, nat_tests)
proper-meet (Const k) Bottom p q = refl

commutative : (x y : ConstValue) → meet_constants x y ≡ meet_constants y x
commutative Top Top = refl
commutative Top (Const l) = refl
commutative Top Bottom = refl
commutative (Const k) Top = refl
commutative (Const k) (Const l) = grind (arith, nat_tests)
commutative (Const k) Bottom = refl
commutative Bottom Top = refl
commutative Bottom (Const l) = refl
commutative Bottom Bottom = refl

associative : (x y z : ConstValue) → meet_constants (meet_constants x y) z ≡ meet_constants x (meet_constants y z)
associative Top y z = refl
associative Bottom y z = refl
associative (Const k) Top z = refl
associative (Const k) Bottom z = refl
associative (Const k) (Const l) Top = grind (arith, nat_tests)
associative (Const k) (Const l) (Const m) = grind (arith, nat_tests)
associative (Const k) (Const l) Bottom = grind (arith, nat_tests)

idempotent : (x : ConstValue) → meet_constants x x ≡ x
idempotent Top = refl
idempotent (Const k) = grind (arith, nat_tests)
idempotent Bottom = refl

rank-most : (x : ConstValue) → constant_rank x ≤ 2
rank-most Top = omega (arith)
rank-most (Const k) = omega (arith)
rank-most Bottom = omega (arith)

rank-falls : (x y : ConstValue) → meet_constants x y ≢ x → constant_rank (meet_constants x y) < constant_rank x
rank-falls Top Top h = absurd (h refl)
rank-falls Top (Const l) h = omega (arith)
rank-falls Top Bottom h = omega (arith)
rank-falls (Const k) Top h = absurd (h refl)
rank-falls (Const k) (Const l) h = grind (arith, nat_tests)
rank-falls (Const k) Bottom h = omega (arith)
rank-falls Bottom y h = absurd (h refl)

pub const_lattice : IsLattice const_algebra
const_lattice = record {
  proper_top = refl;
  proper_bottom = refl;
  proper_meet = proper-meet;
  commutative = λ x y p q. commutative x y;
  associative = λ x y z p q r. associative x y z;
  idempotent = λ x p. idempotent x;
  top_meet = λ x p. refl;
  bottom_meet = λ x p. refl;
  rank_most = λ x p. rank-most x;
  rank_falls = λ x y p q. rank-falls x y;
}

pub const_value_exact : (x y : ConstValue) → value_eq.eq x y ≡ true → x ≡ y
const_value_exact Top Top h = refl
const_value_exact Top (Const l) h = grind (arith, nat_tests)
const_value_exact Top Bottom h = grind (arith, nat_tests)
const_value_exact (Const k) Top h = grind (arith, nat_tests)
const_value_exact (Const k) (Const l) h = grind (arith, nat_tests)
const_value_exact (Const k) Bottom h = grind (arith, nat_tests)
const_value_exact Bottom Top h = grind (arith, nat_tests)
const_value_exact Bottom (Const l) h = grind (arith, nat_tests)
const_value_exact Bottom Bottom h = refl

pub const_top_is_not_bottom : Top ≡ Bottom → ⊥
const_top_is_not_bottom same = let ranks : 2 ≡ 0 = ap constant_rank same in omega (arith, ranks)
