-- Origins are a lattice, and `==` is equality.
use Rattle.std.specs.Prelude.{◌≡◌, ◌≢◌, ◌<◌, ◌≤◌, true}
use Rattle.std.proofs.Common.{refl, ap, arith}
use Rattle.ide_lattice.specs.Laws.{IsLattice}
use Rattle.ide_example.specs.Origin.{origins, meet_origins, origin_rank}
use Rattle.ide_example.specs.declared.origin.Origin.{Origin}
use Rattle.ide_example.specs.declared.origin.Origin.TheVariants.{Program, Input}
use Rattle.ide_example.specs.contracts.origin.OriginPartialEq.TheImpl.{ghosts as origin_eq}

commutative : (x y : Origin) → meet_origins x y ≡ meet_origins y x
commutative Program Program = refl
commutative Program Input = refl
commutative Input Program = refl
commutative Input Input = refl

associative : (x y z : Origin) → meet_origins (meet_origins x y) z ≡ meet_origins x (meet_origins y z)
associative Program y z = refl
associative Input y z = refl

idempotent : (x : Origin) → meet_origins x x ≡ x
idempotent Program = refl
idempotent Input = refl

rank-most : (x : Origin) → origin_rank x ≤ 1
rank-most Program = omega (arith)
rank-most Input = omega (arith)

rank-falls : (x y : Origin) → meet_origins x y ≢ x → origin_rank (meet_origins x y) < origin_rank x
rank-falls Program Program h = absurd (h refl)
rank-falls Program Input h = omega (arith)
rank-falls Input y h = absurd (h refl)

pub origins_are_a_lattice : IsLattice origins
origins_are_a_lattice = record {
  proper_top = refl;
  proper_bottom = refl;
  proper_meet = λ x y p q. refl;
  commutative = λ x y p q. commutative x y;
  associative = λ x y z p q r. associative x y z;
  idempotent = λ x p. idempotent x;
  top_meet = λ x p. refl;
  bottom_meet = λ x p. refl;
  rank_most = λ x p. rank-most x;
  rank_falls = λ x y p q. rank-falls x y;
}

pub equal_origins : (x y : Origin) → origin_eq.eq x y ≡ true → x ≡ y
equal_origins Program Program h = refl
equal_origins Program Input h = cc
equal_origins Input Program h = cc
equal_origins Input Input h = refl

pub program_is_not_input : Program ≡ Input → ⊥
program_is_not_input same = let ranks : 1 ≡ 0 = ap origin_rank same in omega (arith, ranks)
